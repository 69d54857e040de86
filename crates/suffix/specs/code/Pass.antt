-- What one pass over the table finds for a host: the most labels of a matching exception, and of any matching rule.
use Rattle.std.specs.Prelude.{◌≡◌, List, [], ◌∷◌, Bool, ◌&&◌, not, ℕ, ◌-◌, ◌≤◌, max, length, drop, eqb, ltb, if◌then◌else◌, Option, None, Some}
use Prim.Native.Char.{code}
use Rattle.ascii.specs.Ascii.{Bytes, filter_by}
use Rattle.suffix.specs.Suffix.{Rule, is_blank, is_skipped, read_rule, matches, private_label, or_empty}
use Rattle.suffix.specs.declared.Sizes.{Sizes}

abbrev pub sizes_of : ℕ → ℕ → Sizes
sizes_of e m = record { exception = e; most = m }

abbrev pub sized : ℕ → ℕ → Option Sizes
sized e m = Some (sizes_of e m)

-- how many labels the rule with most labels has; 0 where there is no rule
unfoldable pub max_labels : List Rule → ℕ
max_labels [] = 0
max_labels (r ∷ rs) = max (length r.names) (max_labels rs)

unfoldable pub sizes : List Rule → Sizes
sizes matching = sizes_of (max_labels (filter_by (λ r. r.exception) matching)) (max_labels matching)

-- none for a bad table
unfoldable pub best_of : List Bytes → Option (List Rule) → Option Sizes
best_of host None = None
best_of host (Some rules) = Some (sizes (filter_by (matches host) rules))

-- of two findings the larger numbers
abbrev pub joined : Sizes → Sizes → Sizes
joined s t = sizes_of (max s.exception t.exception) (max s.most t.most)

unfoldable pub join_best : Option Sizes → Option Sizes → Option Sizes
join_best None b = None
join_best (Some s) None = None
join_best (Some s) (Some t) = Some (joined s t)

unfoldable pub one_rule : Option Rule → Option (List Rule)
one_rule None = None
one_rule (Some r) = Some (r ∷ [])

-- the rules of one line
unfoldable pub read_line : Bytes → Option (List Rule)
read_line s = if is_skipped s then Some [] else one_rule (read_rule s)

-- a byte of a line; a byte of a line before its first blank
unfoldable pub in_line : ℕ → Bool
in_line b = not (eqb b (code "\n"))

unfoldable pub in_content : ℕ → Bool
in_content b = in_line b && not (is_blank b)

-- the labels of the public suffix, by the two numbers
unfoldable pub size_of : ℕ → ℕ → ℕ
size_of exception most = if ltb 0 exception then exception - 1 else if eqb most 0 then 1 else most

-- the private label is what stands in the host from the place r on
pub record LabelAt (table host : Bytes) (r : ℕ) : Type 0 where
  pub inside : r ≤ length host
  pub is : drop r host ≡ or_empty (private_label table host)
