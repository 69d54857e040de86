-- What is known of a list whose items a closure reads one after another, with what it holds of those read so far.
use Rattle.std.specs.Prelude.{◌≡◌, ◌≤◌, List, [], ◌∷◌, ◌++◌, ℕ, Option, None, Some}
use Rattle.ascii.specs.Ascii.{Bytes}
use Rattle.json_text.specs.Reader.{Read, got, bad, Reader}
use Rattle.json_text.specs.code.Places.{read_at, place_of}
use Rattle.json_values.specs.Json.{listed}
use Rattle.json_values.specs.code.Kinds.{Item}
use Rattle.json_values.specs.declared.Kind.{Kind}

-- ---- the code's answers as readings

-- what is held of what was read, and the place behind it; or the bytes are no JSON
unfoldable pub reading : {A : Type 0} → Option (ℕ × A) → Read A
reading None = bad
reading (Some p) = got p.1 p.0

-- the text reads to a value just where the code holds something of it, up to the same place, and the two stand in R
pub data Relates {A B : Type 0} (R : A → B → Type 0) : Read A → Read B → Type 0 where
  unread : Relates R bad bad
  related : {a : A} {b : B} {j : ℕ} → R a b → Relates R (got a j) (got b j)

-- ---- the closure's answers

-- no answer is before the place that was asked for
pub record GoesOn {B : Type 0} (post : ℕ → B → Option (ℕ × B) → Type 0) : Type 0 where
  pub is : (i j : ℕ) (x y : B) → post i x (Some (j, y)) → i ≤ j

-- each answer ends where an item that p reads ends
pub record Ends {A B : Type 0} (post : ℕ → B → Option (ℕ × B) → Type 0) (p : Reader A) (s : Bytes) : Type 0 where
  pub is : (i : ℕ) (x : B) (q : Option (ℕ × B)) → post i x q → place_of (reading q) ≡ place_of (read_at p s i)

-- where x is held before the first item, y is held behind these items: p reads each in s, and what is held behind it is the closure's answer
pub data Folded {A B : Type 0} (post : ℕ → B → Option (ℕ × B) → Type 0) (p : Reader A) (s : Bytes) (x : B) : List A → B → Type 0 where
  before_all : Folded post p s x [] x
  one_behind : {done : List A} {a : A} {i j : ℕ} {y z : B} → Folded post p s x done y → read_at p s i ≡ got a j → post i y (Some (j, z)) → Folded post p s x (done ++ a ∷ []) z

-- ---- the whole list

-- r is what is held of a list of such items, and the place behind it
pub record FoldsListed {B : Type 0} (post : ℕ → B → Option (ℕ × B) → Type 0) (s : Bytes) (from close : ℕ) (x : B) (r : Option (ℕ × B)) : Type 0 where
  pub is : (k : Kind) (p : Reader (Item k)) → Ends post p s → Relates (Folded post p s x) (read_at (listed p (close ∷ [])) s from) (reading r)

-- ---- a list of which nothing is held

-- the answers of a closure that tells where an item ends, as answers of one that holds nothing of it
abbrev pub Unheld : (ℕ → Option ℕ → Type 0) → ℕ → Unit {0} → Option (ℕ × Unit {0}) → Type 0
Unheld post i x q = post i (place_of (reading q))

-- r is where a list of such items ends
pub record SkipsListed (post : ℕ → Option ℕ → Type 0) (s : Bytes) (from close : ℕ) (r : Option ℕ) : Type 0 where
  pub is : (k : Kind) (p : Reader (Item k)) → Ends (Unheld post) p s → r ≡ place_of (read_at (listed p (close ∷ [])) s from)
