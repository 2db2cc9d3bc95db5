-- What the table's contracts cite besides the list of requests.
use Rattle.request.specs.declared.StunRequestState.{StunRequestState}
use Rattle.std.specs.Prelude.{ℕ, ◌≤◌, ◌≡◌, List, length, Option}
use Rattle.rows.specs.Rows.{rows}
use Rattle.waits.specs.declared.Transport.{Transport}
use Rattle.records.specs.Coding.{width, size, encode, decode}
use Rattle.records.specs.Live.{live, Became}
use Rattle.requests.specs.Search.{keys_of}
use Rattle.requests.specs.Scan.{Walk, walk_by, walk}
use Rattle.requests.specs.Formed.{Ascending}

-- A table in which a search makes sense: at most 32 requests, in ascending order of identifier.
pub record Kept (n : ℕ) (t : List ℕ) : Type 0 where
  pub count : n ≤ 32
  pub fits : size ≤ length t
  pub order : Ascending (keys_of (live n t))

-- The scan over rows: a row that is passed by keeps its words.
abbrev pub walk_rows : Transport → ℕ → List (List ℕ) → Walk (List ℕ)
walk_rows transport now l = walk_by decode encode transport now l

-- What `poll_transmit` answers, and every word after it.
pub record Transmits (transport : Transport) (n now : ℕ) (t : List ℕ) (out : Option StunRequestState) (t' : List ℕ) : Type 0 where
  pub says : out ≡ (walk transport now (live n t)).out
  pub then : Became t t' n (walk_rows transport now (rows width n t)).after (walk transport now (live n t)).after
