-- A request as the calls left it, by their messages and answers alone: accepted by its `send_request`, changed by a call with its
-- identifier, stepped by each `poll_transmit` that reached it, gone at its end. A silent step can't be seen in one answer, so the one
-- request is followed through the calls, with the one-request definitions of the crate `request`; the table is never read.
use Rattle.std.specs.Prelude.{ℕ, Bool, true, false, cond, ◌&&◌, List, [], ◌∷◌, eqb, leb, Option, None, Some, is_none}
use Rattle.message.specs.Head.{key}
use Rattle.message.specs.Attributes.{message_of}
use Rattle.waits.specs.declared.RequestRto.{RequestRto}
use Rattle.waits.specs.declared.Transport.{Transport}
use Rattle.request.specs.Request.{submitted, silenced, cancelled, configured, transmit_of}
use Rattle.request.specs.Answers.{record_after}
use Rattle.request.specs.declared.StunRequestState.{StunRequestState}
use Rattle.model.specs.Calls.{Passage, submits, sends, receives, Scan, transmits, reports, Wish, silence, cancel, configure, query, Kind, carries, scans, names, meets, counts, on_some}
use Rattle.model.specs.Says.{refused_by}
use Rattle.model.specs.declared.Answer.{Answer}
use Rattle.model.specs.declared.Answer.TheVariants as answer
use Rattle.runs.specs.Answers.{is_yes, on_transmission}
use Rattle.runs.specs.Counts.{Exchange}
use Rattle.runs.specs.Ends.{responds_to, report_end}

-- `poll_transmit` "goes up the identifiers and stops at the first request that goes out": it reached x if none went out, or one that isn't
-- before x.
abbrev pub reaches : ℕ → Answer → Bool
reaches x (answer.Refused q) = false
reaches x answer.Ok = false
reaches x answer.Yes = false
reaches x answer.No = false
reaches x answer.None = true
reaches x (answer.Send id to row len) = leb x (key id)
reaches x (answer.Wait clock) = false
reaches x (answer.TimedOut id) = false
reaches x (answer.Cancelled id) = false
reaches x (answer.Stats s) = false
reaches x (answer.Average a) = false
reaches x (answer.Outstanding n) = false
reaches x (answer.Request to integrity) = false

abbrev pub wished_of : Wish → StunRequestState → StunRequestState
wished_of silence r = silenced r
wished_of cancel r = cancelled r
wished_of (configure rto) r = configured rto r
wished_of query r = r

-- What may be absent, changed.
abbrev pub mapped : Option StunRequestState → (StunRequestState → StunRequestState) → Option StunRequestState
mapped o f = on_some o None (λ r. Some (f r))

-- The request x after a call, from what it was before; the agent has this transport and these settings.
module _ (tr : Transport) (rto : RequestRto) (x : ℕ) where
  abbrev pub passage_followed : Passage → List ℕ → Answer → Option StunRequestState → Option StunRequestState
  passage_followed (submits to now) m a o =
      on_some (message_of m) o (λ y.
      on_transmission a o (λ id row len. cond (eqb (key id) x) (Some (submitted now id y.integrity row len to rto)) o))
  passage_followed (sends to) m a o = o
  passage_followed (receives from clock) m a o = cond (is_yes a && responds_to x m) None o

  abbrev pub scan_followed : Scan → ℕ → Answer → Option StunRequestState → Option StunRequestState
  scan_followed transmits now a o = cond (reaches x a) (mapped o (λ r. record_after r (transmit_of tr now r))) o
  scan_followed reports now a o = on_some (report_end x a) o (λ how. None)

  abbrev pub followed_by : Kind → List ℕ → Answer → Option StunRequestState → Option StunRequestState
  followed_by (carries p) m a o = passage_followed p m a o
  followed_by (scans s now) m a o = scan_followed s now a o
  followed_by (names id wish) m a o = cond (is_none (refused_by a) && eqb (key id) x) (mapped o (wished_of wish)) o
  followed_by (meets addr y) m a o = o
  followed_by (counts f) m a o = o

  abbrev pub followed : Exchange → Option StunRequestState → Option StunRequestState
  followed e o = followed_by e.about e.bytes e.answer o

  -- After a run's calls, from what it was before them.
  abbrev pub followed_through : Option StunRequestState → List Exchange → Option StunRequestState
  followed_through o [] = o
  followed_through o (e ∷ l) = followed_through (followed e o) l
