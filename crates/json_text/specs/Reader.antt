-- Readers: what stands at the front of a text, and how many bytes it takes up.
use Rattle.std.specs.Prelude.{[], ◌∷◌, Bool, ℕ, suc, ◌+◌, length, take, drop, if◌then◌else◌, Option, None, Some}
use Rattle.ascii.specs.Ascii.{Bytes, is_empty, between, among}

-- a value, and how many bytes it takes up; or the bytes are wrong
pub data Read (A : Type 0) : Type 0 where
  got : A → ℕ → Read A
  bad : Read A

abbrev pub Reader : Type 0 → Type 0
Reader A = Bytes → Read A

-- ---- one after another: these two are what a `do` block is made of

-- n bytes stand before
unfoldable pub more : {A : Type 0} → ℕ → Read A → Read A
more n (got a m) = got a (n + m)
more n bad = bad

-- r was read at the front of s, and k reads what follows
unfoldable pub behind : {A B : Type 0} → Read A → Bytes → (A → Reader B) → Read B
behind (got a n) s k = more n (k a (drop n s))
behind bad s k = bad

infixr 10 ◌>>=◌
unfoldable pub ◌>>=◌ : {A B : Type 0} → Reader A → (A → Reader B) → Reader B
◌>>=◌ p k s = behind (p s) s k

infixr 10 ◌>>◌
abbrev pub ◌>>◌ : {A B : Type 0} → Reader A → Reader B → Reader B
p >> q = p >>= λ a. q

-- ---- without reading

unfoldable pub give : {A : Type 0} → A → Reader A
give a s = got a 0

unfoldable pub fail : {A : Type 0} → Reader A
fail s = bad

-- nothing is left
unfoldable pub end_of_text : Reader (Unit {0})
end_of_text s = if is_empty s then got tt 0 else bad

-- ---- bytes

-- the first byte; 256 where there is none
unfoldable pub peek : Bytes → ℕ
peek [] = 256
peek (b ∷ s) = b

-- one byte that passes the test
unfoldable pub satisfy : (ℕ → Bool) → Reader (Unit {0})
satisfy f s = if f (peek s) then got tt 1 else bad

-- one byte, with its value; a byte that has none is wrong
unfoldable pub one_byte : {A : Type 0} → Option A → Read A
one_byte (Some a) = got a 1
one_byte None = bad

abbrev pub one_of : Bytes → Reader (Unit {0})
one_of bytes = satisfy (among bytes)

abbrev pub byte_range : ℕ → ℕ → Reader (Unit {0})
byte_range lo hi = satisfy (between lo hi)

-- how many bytes at the front pass the test
unfoldable pub count_while : (ℕ → Bool) → Bytes → ℕ
count_while f [] = 0
count_while f (b ∷ s) = if f b then suc (count_while f s) else 0

-- all bytes at the front that pass the test
unfoldable pub many : (ℕ → Bool) → Reader (Unit {0})
many f s = got tt (count_while f s)

-- these bytes
unfoldable pub word : Bytes → Reader (Unit {0})
word [] = give tt
word (b ∷ w) = one_of (b ∷ []) >> word w

-- ---- choices

-- told by the next byte, which is not read
infix 5 if_next◌then◌else◌
unfoldable pub if_next◌then◌else◌ : {A : Type 0} → Bytes → Reader A → Reader A → Reader A
if_next◌then◌else◌ bytes p q s = if among bytes (peek s) then p s else q s

-- a byte from lo to hi and then p; where no such byte is next, q
infix 5 lead◌to◌then◌else◌
unfoldable pub lead◌to◌then◌else◌ : {A : Type 0} → ℕ → ℕ → Reader A → Reader A → Reader A
lead◌to◌then◌else◌ lo hi p q s = if between lo hi (peek s) then (byte_range lo hi >> p) s else q s

unfoldable pub either_read : {A : Type 0} → Read A → Read A → Read A
either_read (got a n) r = got a n
either_read bad r = r

-- p, or q where p fails
infixr 9 ◌or◌
unfoldable pub ◌or◌ : {A : Type 0} → Reader A → Reader A → Reader A
◌or◌ p q s = either_read (p s) (q s)

-- [ p ]: where p fails, nothing is read
abbrev pub optional : Reader (Unit {0}) → Reader (Unit {0})
optional p = p or give tt

-- ---- the value

unfoldable pub mapped : {A B : Type 0} → (A → B) → Read A → Read B
mapped f (got a n) = got (f a) n
mapped f bad = bad

infixl 11 ◌giving◌
unfoldable pub ◌giving◌ : {A B : Type 0} → Reader A → (A → B) → Reader B
◌giving◌ p f s = mapped f (p s)

unfoldable pub as_written : {A : Type 0} → Bytes → Read A → Read Bytes
as_written s (got a n) = got (take n s) n
as_written s bad = bad

-- the bytes that p reads, as they stand
unfoldable pub verbatim : {A : Type 0} → Reader A → Reader Bytes
verbatim p s = as_written s (p s)

-- ---- repeats: a number that bounds them is handed to p, more than there are bytes

unfoldable pub counted : {A : Type 0} → (ℕ → Reader A) → Reader A
counted p s = p (suc (length s)) s
