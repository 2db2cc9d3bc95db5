-- Where a replay stands, by what it carries and the words and bytes that it is lent.
use Rattle.std.specs.Prelude.{ℕ, ◌≤◌, ◌≡◌, false, cond, List, length, Option, None, Some}
use Rattle.records.specs.Coding.{size}
use Rattle.model.specs.Calls.{kind_of}
use Rattle.agent.specs.Ready.{world_of}
use Rattle.agent.specs.Said.{said_in, words_in}
use Rattle.record.specs.Records.{record_of}
use Rattle.record.specs.declared.Record.{Record}
use Rattle.record.specs.declared.Record.TheVariants.{Settings, Whole}
use Rattle.replay.specs.Runs.{Stand, Played, message_in, turn_with, first_world}
use Rattle.replay.specs.declared.Standing.{Standing}
use Rattle.replay.specs.declared.Turn.{Turn}

abbrev pub stand_of : Standing → List ℕ → List ℕ → Stand
stand_of x t store = record { on = x.on; world = world_of x.held.agent t store x.held.peers x.held.stats }

abbrev pub played_of : Turn → List ℕ → List ℕ → Played
played_of r t store = record { stand = stand_of r.standing t store; reply = r.reply; next = r.next; more = r.more }

-- A turn on a lent table; on one that hasn't all its rows every call is refused by 1.
abbrev pub turn_in : List ℕ → Stand → List ℕ → Played
turn_in t st s = turn_with (λ w c m. said_in t w (kind_of c) m) st s (record_of s)

-- The words of the table after it.
abbrev pub words_by : List ℕ → Stand → List ℕ → Option Record → List ℕ
words_by t st s None = t
words_by t st s (Some (Settings b end)) = t
words_by t st s (Some (Whole call start end)) = cond st.on (words_in t st.world (kind_of call) (message_in s (Some (Whole call start end)))) t

-- One turn: where the replay stands, what it says, and every word of the table.
pub record Plays (x : Standing) (s t store : List ℕ) (r : Turn) (t' store' : List ℕ) : Type 0 where
  pub says : played_of r t' store' ≡ turn_in t (stand_of x t store) s
  pub words : t' ≡ words_by t (stand_of x t store) s (record_of s)

-- `bad`, and the end.
abbrev pub stop_of : Standing → Turn
stop_of x = record { standing = x; reply = None; next = 0; more = false }

-- Before the first settings.
abbrev pub first_standing : Standing
first_standing = record { on = false; held = record { agent = first_world.agent; peers = first_world.peers; stats = first_world.stats } }

-- The memory that a replay begins with: a table of all its rows, and the first store.
pub record Begins (t store : List ℕ) : Type 0 where
  pub rows : size ≤ length t
  pub empty : store ≡ first_world.store
