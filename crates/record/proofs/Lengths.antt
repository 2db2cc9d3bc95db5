-- The fixed part of a body lies within it.
use Rattle.std.specs.Prelude.{ℕ, ◌+◌, ◌≤◌, ◌≡◌, List, length, Bool, true, false, cond, Option, None, Some}
use Rattle.std.proofs.Common.{arith, rules}
use Rattle.record.specs.Records.{with_address, settings_of, timed_of, untimed_of, clock_of, named_of, configure_of, peer_of, plain_of, body_of, from_body}
use Rattle.address.specs.declared.Address.{Address}
use Rattle.model.specs.declared.Call.{Call}
use Rattle.record.specs.declared.Body.{Body}
use Rattle.record.specs.declared.Body.TheVariants.{Settings, Asks}
use Rattle.record.specs.declared.Record.TheVariants.{Settings as Fresh, Whole}
use Rattle.model.specs.declared.StunAgentBuilder.{StunAgentBuilder}

abbrev pub Fits : ℕ → Option Body → Type 0
Fits n (Some (Asks call start)) = start ≤ 5 + n
Fits n (Some (Settings b)) = Unit {0}
Fits n None = Unit {0}

with_address_fits : (n : ℕ) (f : Option Address) (g : Address → Call) (m : ℕ) → m ≤ 5 + n → Fits n (with_address f g m)
with_address_fits n (Some a) g m h = h
with_address_fits n None g m h = tt

if_fits : (n : ℕ) (b : Bool) (x y : Option Body) → Fits n x → Fits n y → Fits n (cond b x y)
if_fits n true x y f g = f
if_fits n false x y f g = g

module _ (k : ℕ) (s : List ℕ) where
  settings_fits : Fits (length s) (settings_of s)
  unfolding settings_of
  settings_fits = grind arith

  timed_fits : Fits (length s) (timed_of k s)
  unfolding timed_of
  timed_fits = grind (arith, with_address_fits)

  untimed_fits : Fits (length s) (untimed_of k s)
  unfolding untimed_of
  untimed_fits = grind (arith, with_address_fits)

  clock_fits : Fits (length s) (clock_of k s)
  unfolding clock_of
  clock_fits = grind arith

  named_fits : Fits (length s) (named_of k s)
  unfolding named_of
  named_fits = grind arith

  configure_fits : Fits (length s) (configure_of s)
  unfolding configure_of
  configure_fits = grind arith

  peer_fits : Fits (length s) (peer_of k s)
  unfolding peer_of
  peer_fits = grind (arith, with_address_fits)

  plain_fits : Fits (length s) (plain_of k s)
  unfolding plain_of
  plain_fits = grind arith

  pub body_fits : Fits (length s) (body_of k s)
  unfolding body_of
  body_fits = search (rules, if_fits, settings_fits, timed_fits, untimed_fits, clock_fits, named_fits, configure_fits, peer_fits, plain_fits) depth 12

-- Where a record ends, and where its message starts.
pub whole_fits : {call : Call} (n m start end : ℕ) (b : Option Body) → m ≡ n → Fits m b → from_body n b ≡ Some (Whole call start end) → (end ≡ 5 + n) × (start ≤ end)
whole_fits n m start end (Some (Settings x)) e f h = grind arith
whole_fits n m start end (Some (Asks c k)) e f h = grind arith
whole_fits n m start end None e f h = grind arith

pub fresh_fits : {x : StunAgentBuilder} (n end : ℕ) (b : Option Body) → from_body n b ≡ Some (Fresh x end) → end ≡ 5 + n
fresh_fits n end (Some (Settings x)) h = grind arith
fresh_fits n end (Some (Asks c k)) h = grind arith
fresh_fits n end None h = grind arith
