-- Identifiers as numbers: `key` tells them apart, and its order is that of their twelve bytes.
--     key_same      two identifiers with one key are one
--     key_reads     the key of an identifier in a message is the number that its twelve bytes spell
--     key_order     so identifiers are ordered as lists of bytes are, the first byte heaviest
--     eq_by_key, lt_by_key, ge_by_key     the derived `==`, `<` and `>=` of identifiers are those of their keys
use mathlib.Core.Path.{◌≡◌, sym, ap₂, ◌∙◌}
use mathlib.Core.List.{List}
use Prim.Native.Nat.{ℕ, ◌+◌, ◌*◌, ◌^◌, ◌≤◌, ◌<◌}
use native.Mathlib.Omega.{arith}
use Rattle.std.proofs.lemmas.Grind.{common_steps}
use lib.Dec.{eqb, ltb}
use mathlib.Core.Bool.{not}
use Rattle.std.specs.Ordering.{partial_lt, partial_ge}
use Rattle.message.specs.contracts.TransactionIdPartialEq.TheImpl.{eq-value}
use Rattle.message.specs.contracts.TransactionIdPartialOrd.TheImpl.{partial_cmp-value}
use lib.ListN.{length, drop, length-drop}
use lib.Seq.{length-take-le}
use Rattle.wire.specs.Wire.{bytes_at, number, Bytes, first_less}
use Rattle.wire.proofs.Order.{digits, order}
use Rattle.wire.proofs.Spelling.{spelled_join, spells32, spells64}
use Rattle.message.specs.Head.{key, id_at}
use Rattle.message.specs.declared.TransactionId.{TransactionId}

pub key_same : (a b : TransactionId) → a.lo < 2 ^ 64 → b.lo < 2 ^ 64 → key a ≡ key b → a ≡ b
unfolding key
key_same a b p q e =
    let d = digits (2 ^ 64) a.hi a.lo b.hi b.lo p q e in
    ap₂ made d.0 d.1
  where
    made : ℕ → ℕ → TransactionId
    made h l = record { hi = h; lo = l }

pub key_reads : (s : List ℕ) (i : ℕ) → i + 12 ≤ length s → key (id_at s i) ≡ number (bytes_at s i 12)
unfolding key id_at
key_reads s i h =
    ap₂ (λ (a b : ℕ). a * 2 ^ 64 + b) (spells32 s i (omega arith)) (spells64 s (i + 4) (omega arith)) ∙ sym (spelled_join s i 4 8 (omega arith))

pub key_order : (s t : List ℕ) (i j : ℕ) → i + 12 ≤ length s → j + 12 ≤ length t → Bytes (bytes_at s i 12) → Bytes (bytes_at t j 12)
    → ltb (key (id_at s i)) (key (id_at t j)) ≡ first_less (bytes_at s i 12) (bytes_at t j 12)
key_order s t i j h k p q =
    ap₂ ltb (key_reads s i h) (key_reads t j k) ∙ order (bytes_at s i 12) (bytes_at t j 12) (twelve s i h ∙ sym (twelve t j k)) p q
  where
    twelve : (s : List ℕ) (i : ℕ) → i + 12 ≤ length s → length (bytes_at s i 12) ≡ 12
    twelve s i h = length-take-le 12 (drop i s) (rw length-drop (omega arith))

-- what the derived comparisons promise, beside the keys
module _ (a b : TransactionId) (p : a.lo < 2 ^ 64) (q : b.lo < 2 ^ 64) where
  pub eq_by_key : eqb (key a) (key b) ≡ eq-value.it a b
  unfolding key
  eq_by_key = grind (arith, common_steps)

  pub lt_by_key : ltb (key a) (key b) ≡ partial_lt partial_cmp-value.it a b
  unfolding key
  lt_by_key = grind (arith, common_steps)

  pub ge_by_key : ltb (key a) (key b) ≡ not (partial_ge partial_cmp-value.it a b)
  unfolding key
  ge_by_key = grind (arith, common_steps)
