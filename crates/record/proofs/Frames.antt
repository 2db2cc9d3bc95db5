-- When the start of the rest of a trace is a record, and which.
use Rattle.std.specs.Prelude.{Option, None, Some}
use mathlib.Core.Path.{◌≡◌}
use mathlib.Core.List.{List}
use Prim.Native.Nat.{ℕ, ◌+◌, ◌≤◌}
use native.Mathlib.Omega.{arith}
use lib.ListN.{length, get_or, take, drop, length-drop}
use lib.Seq.{length-take-le}
use Rattle.wire.specs.Wire.{be16}
use Rattle.record.specs.Records.{body_of, framed, from_body, record_of}
use Rattle.record.proofs.Lengths.{body_fits, fresh_fits, whole_fits}
use Rattle.std.proofs.lemmas.Grind.{common_steps}
use Rattle.model.specs.declared.StunAgentBuilder.{StunAgentBuilder}
use Rattle.model.specs.declared.Call.{Call}
use Rattle.record.specs.declared.Record.{Record}
use Rattle.record.specs.declared.Record.TheVariants.{Settings as Fresh, Whole}

-- A record ends within the trace, has its five bytes, and its message starts within it.
pub record Lies (s : List ℕ) (start end : ℕ) : Type 0 where
  pub starts : start ≤ end
  pub some : 5 ≤ end
  pub ends : end ≤ length s

module _ (s : List ℕ) where
  framed_of : (r : Option Record) → (r ≡ None → ⊥) → record_of s ≡ r
      → (5 + be16 s 3 ≤ length s) × (from_body (be16 s 3) (body_of (get_or s 2 0) (take (be16 s 3) (drop 5 s))) ≡ r)
  unfolding record_of framed
  framed_of r some e = grind (arith, common_steps)

  pub fresh_lies : {x : StunAgentBuilder} {end : ℕ} → record_of s ≡ Some (Fresh x end) → Lies s end end
  fresh_lies {x} {end} e =
      let w = framed_of (Some (Fresh x end)) (λ z. absurd cc) e in
      let q = fresh_fits (be16 s 3) end _ w.1 in
      record { starts = omega arith; some = omega (arith, q); ends = omega (arith, q, w.0) }

  pub whole_lies : {call : Call} {start end : ℕ} → record_of s ≡ Some (Whole call start end) → Lies s start end
  whole_lies {call} {start} {end} e =
      let w = framed_of (Some (Whole call start end)) (λ z. absurd cc) e in
      let l : length (take (be16 s 3) (drop 5 s)) ≡ be16 s 3 = length-take-le _ _ (rw length-drop (omega (arith, w.0))) in
      let q = whole_fits (be16 s 3) _ start end _ l (body_fits (get_or s 2 0) _) w.1 in
      record { starts = q.1; some = omega (arith, q.0); ends = omega (arith, q.0, w.0) }
