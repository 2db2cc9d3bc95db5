-- What every call answers and leaves: document 01, "Refusal numbers".
use Rattle.model.specs.declared.Refusal.{Refusal}
use Rattle.std.specs.Prelude.{ℕ, None, List, Option, Some}
use Rattle.model.specs.World.{World}
use Rattle.model.specs.Calls.{Kind, kind_of}
use Rattle.model.specs.Refusals.{refusal_of}
use Rattle.model.specs.Effects.{answer_of, after}
use Rattle.model.specs.declared.Call.{Call}
use Rattle.model.specs.declared.Answer.{Answer}
use Rattle.model.specs.declared.Answer.TheVariants as answer

-- What the host has after a call.
pub record Said : Type 0 where
  pub answer : Answer
  pub world : World

-- The refusal in an answer, none in an answer of a call that wasn't refused.
abbrev pub refused_by : Answer → Option Refusal
refused_by (answer.Refused q) = Some q
refused_by answer.Ok = None
refused_by answer.Yes = None
refused_by answer.No = None
refused_by answer.None = None
refused_by (answer.Send id to row len) = None
refused_by (answer.Wait clock) = None
refused_by (answer.TimedOut id) = None
refused_by (answer.Cancelled id) = None
refused_by (answer.Stats st) = None
refused_by (answer.Average rtt) = None
refused_by (answer.Outstanding n) = None
refused_by (answer.Request to integrity) = None

-- "A refused call answers its number and leaves state, statistics, store and peers unchanged, the clock mark included."
abbrev pub decided : Option Refusal → World → Said → Said
decided None w done = done
decided (Some q) w done = record { answer = answer.Refused q; world = w }

unfoldable pub says_of : ℕ → World → Kind → List ℕ → Said
says_of rows w k m = decided (refusal_of rows w k m) w (record { answer = answer_of rows w k m; world = after rows w k m })

abbrev pub says : ℕ → World → Call → List ℕ → Said
says rows w c m = says_of rows w (kind_of c) m
