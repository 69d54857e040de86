-- The eleven label cases (document 01, "Label cases to hold"): one statement about `private_label`.
use Rattle.std.specs.Prelude.{◌≡◌, List, [], ◌∷◌, map, Option, None, Some}
use Rattle.ascii.specs.Ascii.{Bytes, text}
use Rattle.suffix.specs.Suffix.{private_label}

abbrev pub case_rules : Bytes
case_rules = text "com\nhosting.example.com\n*.ck\n!www.ck\n"

-- host and label
abbrev pub label_cases : List (Bytes × Option Bytes)
label_cases =
    (text "www.example.com", Some (text "example.com")) ∷
    (text "com", None) ∷
    (text "hosting.example.com", None) ∷
    (text "companyA.hosting.example.com", Some (text "companyA.hosting.example.com")) ∷
    (text "a.companyA.hosting.example.com", Some (text "companyA.hosting.example.com")) ∷
    (text "b.ck", None) ∷
    (text "a.b.ck", Some (text "a.b.ck")) ∷
    (text "www.ck", Some (text "www.ck")) ∷
    (text "ck", None) ∷
    (text "x.y.zz", Some (text "y.zz")) ∷
    (text "192.0.2.1", None) ∷
    []

-- each host has its label
abbrev pub LabelCases : Type 0
LabelCases = map (λ c. private_label case_rules c.0) label_cases ≡ map (λ c. c.1) label_cases
