-- The lent store as a list of bytes (document 01, "Numbers" and "Refusal numbers"): rows of 1,024 bytes, of which contracts say 32.
use Rattle.std.specs.Prelude.{ℕ, ◌+◌, ◌*◌, List, [], ◌++◌, Bool, cond, ◌&&◌, length, take, drop, ltb, leb}

-- A row of the store, a length that a row has room for, and a store that isn't too short.
unfoldable pub in_store : ℕ → List ℕ → ℕ → ℕ → Bool
in_store rows store row len = ltb row rows && (leb len 1024 && leb (rows * 1024) (length store))

-- "Its bytes go to the row's start; nothing else in the store changes."
unfoldable pub stored : List ℕ → ℕ → List ℕ → List ℕ
stored store row bytes = take (row * 1024) store ++ (bytes ++ drop (row * 1024 + length bytes) store)

unfoldable pub copied : ℕ → List ℕ → ℕ → List ℕ → List ℕ
copied rows store row bytes = cond (in_store rows store row (length bytes)) (stored store row bytes) store

-- "What must change shape": the part to send, empty where there is none.
unfoldable pub part_of : ℕ → List ℕ → ℕ → ℕ → List ℕ
part_of rows store row len = cond (in_store rows store row len) (take len (drop (row * 1024) store)) []
