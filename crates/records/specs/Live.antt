-- The outstanding requests that words hold, and what a call that changes the words has to show.
use Rattle.std.specs.Prelude.{ℕ, ◌≡◌, List, map}
use Rattle.rows.specs.Rows.{rows, with_rows}
use Rattle.request.specs.declared.StunRequestState.{StunRequestState}
use Rattle.records.specs.Coding.{width, decode}

-- The requests in the first n rows.
abbrev pub live : ℕ → List ℕ → List StunRequestState
live n t = map decode (rows width n t)

-- t became t': every word of t', by its rows and what was behind them, and the requests that its first n rows hold.
pub record Became (t t' : List ℕ) (n : ℕ) (rs : List (List ℕ)) (l : List StunRequestState) : Type 0 where
  pub words : t' ≡ with_rows width t rs
  pub holds : live n t' ≡ l
