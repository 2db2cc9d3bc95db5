-- The lent part of the store when it has come back.
use mathlib.Core.Path.{◌≡◌, ap}
use mathlib.Core.Bool.{true}
use mathlib.Core.List.{List, ◌++◌}
use Prim.Native.Nat.{ℕ, ◌+◌, ◌-◌, ◌*◌}
use native.Mathlib.Omega.{arith}
use lib.ListN.{length, take}
use borrow.Rule.Slice.PartMut.{put_mid, Post-is}
use Rattle.store.specs.Rows.{in_store, stored, copied}

module _ (rows : ℕ) (store : List ℕ) (row : ℕ) (bytes : List ℕ) where
  -- The part that was lent comes back with the bytes in it.
  pub copy_some : (part : List ℕ) → part ≡ bytes → in_store rows store row (length bytes) ≡ true
      → put_mid (row * 1024) (row * 1024 + length bytes - row * 1024) store part ≡ copied rows store row bytes
  unfolding copied stored
  copy_some part e fits =
      rw (e, fits)
      (ap (λ (l : List ℕ). take (row * 1024) store ++ (bytes ++ l))
      (Post-is (row * 1024) (row * 1024 + length bytes) store (omega arith)))
