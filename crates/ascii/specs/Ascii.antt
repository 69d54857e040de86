-- Bytes, ASCII text and the tests on them that every other crate uses.
use Rattle.std.specs.Prelude.{List, [], ◌∷◌, ◌++◌, map, Bool, true, false, ◌&&◌, ◌||◌, not, ℕ, zero, suc, ◌+◌, ◌-◌, ◌*◌, ◌/◌, ◌%◌, length, drop, eqb, leb, ltb, if◌then◌else◌, Option, None, Some}
use Prim.Native.String.{String, [] as ε, ◌∷◌ as ◌◃◌}
use Prim.Native.Char.{code}

abbrev pub Bytes : Type 0
Bytes = List ℕ

-- an optional value, and then what is made of it
infixl 10 ◌>>=◌
abbrev pub ◌>>=◌ : {A B : Type 0} → Option A → (A → Option B) → Option B
None >>= f = None
Some a >>= f = f a

abbrev pub is_none : {A : Type 0} → Option A → Bool
is_none None = true
is_none (Some a) = false

-- two optional values that are both there and pass a test together
abbrev pub both_pass : {A : Type 0} → (A → A → Bool) → Option A → Option A → Bool
both_pass p None None = false
both_pass p None (Some b) = false
both_pass p (Some a) None = false
both_pass p (Some a) (Some b) = p a b

-- a where the test holds
infix 12 ◌when◌
abbrev pub ◌when◌ : {A : Type 0} → A → Bool → Option A
a when true = Some a
a when false = None

-- the first of two optional values that is there
infixr 11 ◌or_else◌
abbrev pub ◌or_else◌ : {A : Type 0} → Option A → Option A → Option A
None or_else b = b
Some a or_else b = Some a

-- ASCII text as bytes: text "com" is 99 ∷ 111 ∷ 109 ∷ []
abbrev pub text : String → Bytes
text ε = []
text (c ◃ s) = code c ∷ text s

-- ---- lists

unfoldable pub all {ℓ} : {A : Type ℓ} → (A → Bool) → List A → Bool
all p [] = true
all p (x ∷ xs) = p x && all p xs

unfoldable pub any {ℓ} : {A : Type ℓ} → (A → Bool) → List A → Bool
any p [] = false
any p (x ∷ xs) = p x || any p xs

-- the elements that pass the test, in order
unfoldable pub filter_by : {A : Type 0} → (A → Bool) → List A → List A
filter_by p [] = []
filter_by p (x ∷ xs) = if p x then x ∷ filter_by p xs else filter_by p xs

abbrev pub is_empty {ℓ} : {A : Type ℓ} → List A → Bool
is_empty [] = true
is_empty (x ∷ xs) = false

unfoldable pub take_while : {A : Type 0} → (A → Bool) → List A → List A
take_while p [] = []
take_while p (x ∷ xs) = if p x then x ∷ take_while p xs else []

unfoldable pub drop_while : {A : Type 0} → (A → Bool) → List A → List A
drop_while p [] = []
drop_while p (x ∷ xs) = if p x then drop_while p xs else x ∷ xs

-- the last n elements
unfoldable pub last_of {ℓ} : {A : Type ℓ} → ℕ → List A → List A
last_of n l = drop (length l - n) l

-- an output afterwards whose first bytes are written: what a call does not write in it remains
abbrev pub written_over : Bytes → Bytes → Bytes
written_over x before = x ++ drop (length x) before

-- the parts between the bytes d: one more than there are such bytes
unfoldable pub join_head : ℕ → List Bytes → List Bytes
join_head b [] = (b ∷ []) ∷ []
join_head b (p ∷ ps) = (b ∷ p) ∷ ps

unfoldable pub split_at : ℕ → Bytes → List Bytes
split_at d [] = [] ∷ []
split_at d (b ∷ s) = if eqb b d then [] ∷ split_at d s else join_head b (split_at d s)

-- each part with the byte d before it
unfoldable pub prefixed : ℕ → List Bytes → Bytes
prefixed d [] = []
prefixed d (p ∷ ps) = d ∷ p ++ prefixed d ps

-- parts joined by the byte d
unfoldable pub join_with : ℕ → List Bytes → Bytes
join_with d [] = []
join_with d (p ∷ ps) = p ++ prefixed d ps

-- ---- bytes

abbrev pub between : ℕ → ℕ → ℕ → Bool
between lo hi b = leb lo b && leb b hi

-- b is one of these bytes
abbrev pub among : Bytes → ℕ → Bool
among [] b = false
among (c ∷ cs) b = eqb b c || among cs b

unfoldable pub is_digit : ℕ → Bool
is_digit b = between (code "0") (code "9") b

unfoldable pub is_upper : ℕ → Bool
is_upper b = between (code "A") (code "Z") b

unfoldable pub is_letter : ℕ → Bool
is_letter b = between (code "a") (code "z") b || is_upper b

unfoldable pub lower_byte : ℕ → ℕ
lower_byte b = if is_upper b then b + 32 else b

unfoldable pub lower : Bytes → Bytes
lower s = map lower_byte s

-- equal byte for byte
unfoldable pub same : Bytes → Bytes → Bool
same [] [] = true
same [] (c ∷ t) = false
same (b ∷ s) [] = false
same (b ∷ s) (c ∷ t) = eqb b c && same s t

-- equal without regard to ASCII case
unfoldable pub same_no_case : Bytes → Bytes → Bool
same_no_case s t = same (lower s) (lower t)

-- t begins with the bytes p
unfoldable pub begins_with : Bytes → Bytes → Bool
begins_with [] t = true
begins_with (b ∷ p) [] = false
begins_with (b ∷ p) (c ∷ t) = eqb b c && begins_with p t

-- t begins with bytes that each pass a test with those of p
unfoldable pub begins_by : (ℕ → ℕ → Bool) → Bytes → Bytes → Bool
begins_by f [] t = true
begins_by f (b ∷ p) [] = false
begins_by f (b ∷ p) (c ∷ t) = f b c && begins_by f p t

unfoldable pub begins_with_no_case : Bytes → Bytes → Bool
begins_with_no_case p t = begins_with p (lower t)

-- ---- numbers in base ten

unfoldable pub value_from : ℕ → Bytes → ℕ
value_from n [] = n
value_from n (b ∷ s) = value_from (n * 10 + (b - code "0")) s

-- the number that digits write
unfoldable pub value : Bytes → ℕ
value s = value_from 0 s

-- the number of one or more digits and nothing else, at most 65535
unfoldable pub number16 : Bytes → Option ℕ
number16 s = value s when (not (is_empty s) && all is_digit s && leb (value s) 65535)

abbrev pub digit : ℕ → ℕ
digit n = code "0" + n

-- the digits of a number below 10 to the power of k + 1, without leading zeros
unfoldable pub decimal_up_to : ℕ → ℕ → Bytes
decimal_up_to zero n = digit n ∷ []
decimal_up_to (suc k) n = if ltb n 10 then digit n ∷ [] else decimal_up_to k (n / 10) ++ digit (n % 10) ∷ []

-- the digits of a 16-bit number
unfoldable pub decimal : ℕ → Bytes
decimal n = decimal_up_to 4 n
