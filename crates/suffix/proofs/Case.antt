-- The private label does not depend on ASCII case.
use Rattle.std.specs.Prelude.{if◌then◌else◌, Option, None, Some, option_map}
use mathlib.Core.Path.{◌≡◌, refl}
use mathlib.Core.List.{List, [], ◌∷◌, map}
use mathlib.Core.Bool.{Bool, true, false}
use lib.ListN.{length-map}
use Rattle.ascii.specs.Ascii.{Bytes, ◌>>=◌, filter_by, join_with, lower_byte, lower, same_no_case}
use Rattle.hosts.specs.Host.{labels, is_host}
use Rattle.hosts.proofs.Case.{lower_lower, map_map_eq, last_map, labels_lower, is_host_lem, is_address_lem, join_lower}
use Rattle.suffix.specs.Suffix.{Rule, name_matches, all_match, matches, public_suffix, private_labels, label_under, read_table, private_label}

-- ---- matching

filter_ext : {A : Type 0} (p q : A → Bool) → ((x : A) → p x ≡ q x) → (l : List A) → filter_by p l ≡ filter_by q l
unfolding filter_by
filter_ext p q h [] = refl
filter_ext p q h (x ∷ l) = simp (h x, filter_ext p q h l)

name_matches_lem : (n l : Bytes) → name_matches n (lower l) ≡ name_matches n l
unfolding name_matches same_no_case lower
name_matches_lem n l = simp (map_map_eq lower_byte lower_lower)

pub all_match_lem : (ns ls : List Bytes) → all_match ns (map lower ls) ≡ all_match ns ls
unfolding all_match
all_match_lem [] [] = refl
all_match_lem [] (l ∷ ls) = refl
all_match_lem (n ∷ ns) [] = refl
all_match_lem (n ∷ ns) (l ∷ ls) = simp (name_matches_lem, all_match_lem ns ls)

matches_lower : (host : List Bytes) (r : Rule) → matches (map lower host) r ≡ matches host r
unfolding matches
matches_lower host r = simp (length-map, last_map, all_match_lem)

suffix_lower : (rules : List Rule) (host : List Bytes) → public_suffix rules (map lower host) ≡ map lower (public_suffix rules host)
unfolding public_suffix
suffix_lower rules host = simp (filter_ext (matches (map lower host)) (matches host) (matches_lower host) rules, last_map)

-- ---- the label

if_map : {A B : Type 0} (f : A → B) (t : Bool) (x y : A) → (if t then f x else f y) ≡ f (if t then x else y)
if_map f true x y = refl
if_map f false x y = refl

labels_of : (rules : List Rule) (host : List Bytes) → private_labels rules (map lower host) ≡ option_map (map lower) (private_labels rules host)
unfolding private_labels
labels_of rules host =
    simp (is_address_lem, suffix_lower, length-map, last_map, ← if_map (option_map (map lower)))

label_under_lem : (rules : List Rule) (h : Bytes) → label_under rules (lower h) ≡ option_map lower (label_under rules h)
unfolding label_under
label_under_lem rules h = simp (labels_lower, labels_of) (go (private_labels rules (labels h)))
  where
    go : (o : Option (List Bytes)) → (option_map (map lower) o >>= λ ls. Some (join_with 46 ls)) ≡ option_map lower (o >>= λ ls. Some (join_with 46 ls))
    go None = refl
    go (Some ls) = simp join_lower

-- the label of a host in lower case is the label in lower case
pub private_label_lem : (table h : Bytes) → private_label table (lower h) ≡ option_map lower (private_label table h)
unfolding private_label
private_label_lem table h = simp is_host_lem (go (is_host h) (read_table table))
  where
    go : (u : Bool) (t : Option (List Rule)) → (if u then (t >>= λ rules. label_under rules (lower h)) else None) ≡ option_map lower (if u then (t >>= λ rules. label_under rules h) else None)
    go false t = refl
    go true None = refl
    go true (Some rules) = label_under_lem rules h
