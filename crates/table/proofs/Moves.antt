-- Rows that move by a place, as one copy of their words.
--     moved_up       a row put in: the rows from its place on move up
--     moved_down     a row taken out: the rows behind it move down
use Prim.Native.Nat.{ℕ, ◌+◌, ◌-◌, ◌*◌, ◌≤◌, ◌<◌}
use mathlib.Core.Path.{◌≡◌, ap, ◌∙◌}
use mathlib.Core.List.{List, append_assoc}
use native.Mathlib.Omega.{arith}
use lib.ListN.{length}
use Rattle.std.specs.List.{copy_within}
use Rattle.std.proofs.lemmas.Slice.{between_is}
use Rattle.rows.specs.Lists.{insert_at, remove_at}
use Rattle.rows.specs.Rows.{rows, put_at}
use Rattle.rows.proofs.Shifts.{opened, closed, open_filled, close_ended}
use Rattle.records.specs.Coding.{width, size, encode, Put}
use Rattle.records.specs.Live.{live, Became}
use Rattle.records.proofs.Coding.{length_encode}
use Rattle.records.proofs.Live.{became_insert, became_remove}
use Rattle.request.specs.declared.StunRequestState.{StunRequestState}

module _ (n at : ℕ) (t : List ℕ) where
  gap : at ≤ n → copy_within t (at * width) (n * width) (at * width + width) ≡ opened width (n * width) t (at * width)
  gap h =
      let e : at * width + width + (n * width - at * width) ≡ n * width + width = omega arith in
      rw (e, ← between_is t (at * width) (n * width), append_assoc)

  shut : at < n → copy_within t (at * width + width) (n * width) (at * width) ≡ closed width (at * width) t (n * width - width)
  shut h =
      let m : n * width - width + width ≡ n * width = omega arith in
      let q : at * width + (n * width - (at * width + width)) ≡ n * width - width = omega arith in
      rw (q, m, between_is t (at * width + width) (n * width))

  pub moved_up : (t₁ t₂ : List ℕ) (r : StunRequestState) → at ≤ n → n < 32 → size ≤ length t
      → t₁ ≡ copy_within t (at * width) (n * width) (at * width + width) → Put t₁ t₂ at r
      → Became t t₂ (n + 1) (insert_at (rows width n t) at (encode r)) (insert_at (live n t) at r)
  moved_up t₁ t₂ r h k z e p =
      let f : put_at t₁ (at * width) (encode r) ≡ put_at (opened width (n * width) t (at * width)) (at * width) (encode r) = ap (λ (x : List ℕ). put_at x (at * width) (encode r)) (e ∙ gap h) in
      became_insert n t t₂ (omega arith) at r p.back (p.words ∙ f ∙ open_filled width n at t (encode r) (omega arith) (length_encode r) h)

  pub moved_down : (t₁ : List ℕ) → at < n → n ≤ 32 → size ≤ length t
      → t₁ ≡ copy_within t (at * width + width) (n * width) (at * width)
      → Became t t₁ (n - 1) (remove_at (rows width n t) at) (remove_at (live n t) at)
  moved_down t₁ h k z e =
      became_remove n t t₁ (omega arith) at h (e ∙ shut h ∙ close_ended width n at t h)
