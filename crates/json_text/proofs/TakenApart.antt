-- One reader after another, taken apart.
use mathlib.Core.Path.{◌≡◌, refl, sym, ◌∙◌}
use Prim.Native.Nat.{ℕ}
use native.Mathlib.Omega.{arith}
use Rattle.ascii.specs.Ascii.{Bytes}
use Rattle.json_text.specs.Reader.{Read, got, bad, Reader, ◌>>=◌}
use Rattle.json_text.specs.code.Places.{read_at}
use Rattle.json_text.proofs.Steps.{on, then_bad}

pub record Bound {A B : Type 0} (p : Reader A) (k : A → Reader B) (s : Bytes) (i : ℕ) (b : B) (j : ℕ) : Type 0 where
  pub value : A
  pub place : ℕ
  pub first_read : read_at p s i ≡ got value place
  pub rest_read : read_at (k value) s place ≡ got b j

pub bound : {A B : Type 0} (p : Reader A) (k : A → Reader B) (s : Bytes) (i : ℕ) {b : B} {j : ℕ} → read_at (p >>= k) s i ≡ got b j → Bound p k s i b j
bound p k s i {b} {j} e = go (read_at p s i) refl
  where
    go : (r : Read _) → read_at p s i ≡ r → Bound p k s i b j
    go (got a m) f = record { value = a; place = m; first_read = f; rest_read = sym (on p k s i f) ∙ e }
    go bad f = let z : ◌≡◌ {A = ℕ} 0 1 = cc (then_bad p k s i f) in absurd (omega arith)
