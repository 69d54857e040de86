-- What the answers of the code mean, in the terms of Record and Fetching.
use Rattle.std.specs.Prelude.{◌≡◌, true, List, [], ◌∷◌, ◌++◌, ℕ, zero, suc, ◌+◌, ◌-◌, ◌*◌, ◌≤◌, ◌<◌, length, take, drop, get_or, eqb, Option, None, Some, Result, Ok, Err}
use Rattle.ascii.specs.Ascii.{Bytes, ◌>>=◌, all}
use Rattle.refusals.specs.declared.Refusal.{Refusal}
use Rattle.fetch_record.specs.Record.{Fetched, number, in_text, last_location, read_end, read_record}
use Rattle.fetch_record.specs.declared.item.Redirect.{Redirect}
use Rattle.fetch_record.specs.declared.item.Answer.{Answer}
use Rattle.fetch_record.specs.declared.Layout.{Layout}
use Rattle.ascii.specs.declared.Span.{Span}

-- the fields of a body of kind 1, well formed or not
unfoldable pub redirect_in : Bytes → Redirect
redirect_in s = record { status = number s 0; authorized = eqb (get_or s 2 0) 1; start = number s 3; size = number s 5 }

-- ---- records

-- redirects have 8 bytes each: the k-th stands at 8 * k, its body one byte on
unfoldable pub redirect_at : ℕ → Bytes → Redirect
redirect_at k items = redirect_in (drop (8 * k + 1) items)

-- the first n items, as redirects
unfoldable pub redirects_in : ℕ → Bytes → List Redirect
redirects_in zero items = []
redirects_in (suc n) items = redirects_in n items ++ (redirect_at n items ∷ [])

-- the first n items are in the record, each Location in the text
pub record Placed (items lent : Bytes) (n : ℕ) : Type 0 where
  pub few : n ≤ 8
  pub long : 8 * n ≤ length items
  pub inside : all (in_text lent) (redirects_in n items) ≡ true

-- what stands behind the redirects
unfoldable pub end_read : Option (Option Answer) → Option Fetched
end_read None = None
end_read (Some a) = Some (record { redirects = []; answer = a })

-- redirects put before what else was read
unfoldable pub behind : List Redirect → Option Fetched → Option Fetched
behind hs None = None
behind hs (Some f) = Some (record { redirects = hs ++ f.redirects; answer = f.answer })

-- the redirects counted, then what stands behind them
unfoldable pub front_read : Bytes → Option ℕ → Option Fetched
front_read items None = None
front_read items (Some n) = behind (redirects_in n items) (read_end (drop (8 * n) items))

pub data FrontPlaced (items lent : Bytes) : Option ℕ → Type 0 where
  no_front : FrontPlaced items lent None
  front : {n : ℕ} → Placed items lent n → FrontPlaced items lent (Some n)

pub record Counts (items lent : Bytes) (r : Option ℕ) : Type 0 where
  pub is : front_read items r ≡ read_record items lent
  pub places : FrontPlaced items lent r

unfoldable pub layout_read : Bytes → Option Layout → Option Fetched
layout_read items None = None
layout_read items (Some l) = Some (record { redirects = redirects_in l.count items; answer = l.answer })

pub data LayoutPlaced (items lent : Bytes) : Option Layout → Type 0 where
  no_layout : LayoutPlaced items lent None
  layout : {l : Layout} → Placed items lent l.count → LayoutPlaced items lent (Some l)

pub record Lays (items lent : Bytes) (r : Option Layout) : Type 0 where
  pub is : layout_read items r ≡ read_record items lent
  pub places : LayoutPlaced items lent r

-- ---- what record and text settle

unfoldable pub hops_read : Result Unit Refusal → Option Refusal
hops_read (Ok t) = None
hops_read (Err r) = Some r

-- ---- the last redirect's part of the text

-- none for a bad record too
unfoldable pub target : Bytes → Bytes → Option Bytes
target items lent = read_record items lent >>= λ f. last_location lent f.redirects

unfoldable pub part_in : Bytes → Option Span → Option Bytes
part_in lent None = None
part_in lent (Some t) = Some (take (t.to - t.from) (drop t.from lent))

-- both places are inside the text
pub data TargetPlaced (lent : Bytes) : Option Span → Type 0 where
  no_target : TargetPlaced lent None
  target_in : {t : Span} → t.from ≤ t.to → t.to ≤ length lent → TargetPlaced lent (Some t)

-- they are those of a redirect
pub data TargetOf : Option Redirect → Option Span → Type 0 where
  of_none : TargetOf None None
  of_hop : {h : Redirect} {t : Span} → t.from ≡ h.start → t.to ≡ h.start + h.size → t.from < 65536 → t.to < 131072 → TargetOf (Some h) (Some t)

pub record Targets (lent : Bytes) (o : Option Bytes) (l : Option Redirect) (r : Option Span) : Type 0 where
  pub is : part_in lent r ≡ o
  pub places : TargetPlaced lent r
  pub hop : TargetOf l r
