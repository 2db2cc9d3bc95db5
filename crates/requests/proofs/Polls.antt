-- The scan of `poll`: the first request that ended, or the clock to wait for.
--     poll_timed_out, poll_cancelled, poll_waits, wait_least   what each answer says
--     poll_first                                               the first request that ended is the answer
--     waits_exactly                                            `poll` says to wait exactly when none ended
--     poll_found, poll_none                                    what it says of the request with an identifier
use Rattle.std.specs.Prelude.{None, Some, slice_get}
use Prim.Native.Nat.{ℕ, zero, suc, ◌+◌, ◌≤◌, ◌<◌, min, max}
use mathlib.Core.Path.{◌≡◌, refl, sym, ap, ◌∙◌}
use mathlib.Core.Bool.{Bool, true, false}
use mathlib.Core.Logic.{◌↔◌, ◌⊎◌, inl, inr}
use Rattle.std.proofs.lemmas.Option.{some_pair_parts}
use mathlib.Core.List.{List, [], ◌∷◌}
use native.Mathlib.Numerals.{add-one}
use native.Mathlib.Omega.{arith}
use lib.Dec.{eqb, leb}
use lib.ListN.{length, take}
use borrow.Author.Tests.{eqb-true, eqb-false, leb-true, leb-false}
use Rattle.message.specs.Head.{key}
use Rattle.message.specs.declared.TransactionId.{TransactionId}
use Rattle.waits.specs.declared.Transport.{Transport}
use Rattle.request.specs.Times.{moment_of}
use Rattle.request.specs.Request.{poll_of}
use Rattle.request.specs.Answers.{ends, wait_clock}
use Rattle.request.specs.declared.StunRequestState.{StunRequestState}
use Rattle.request.specs.declared.StunRequestPollRet.{StunRequestPollRet}
use Rattle.request.specs.declared.StunRequestPollRet.TheVariants.{WaitUntil, Cancelled, TimedOut}
use Rattle.request.proofs.Answers.{wait_clock_lem}
use Rattle.requests.specs.Search.{key_of, keys_of, lookup}
use Rattle.requests.specs.Scan.{hour, reached, poll_from, poll_all}
use Rattle.requests.specs.Formed.{Ascending}
use Rattle.requests.specs.declared.Polled.{Polled}
use Rattle.requests.specs.declared.Polled.TheVariants.{TimedOut as TimesOut, Cancelled as Cancels, WaitUntil as Waits}
use Rattle.requests.proofs.Lists.{apart, some_same, none_some}
use Rattle.requests.proofs.Search.{found_at, none_exactly, among_placed, placed_found}

-- each of them waits
abbrev pub NoneEnds : Transport → ℕ → List StunRequestState → Type 0
NoneEnds t now [] = Unit
NoneEnds t now (r ∷ rs) = (ends (poll_of t now r) ≡ false) × NoneEnds t now rs

-- the answer of one request at place i, as an answer of the scan
abbrev pub report_of : StunRequestPollRet → ℕ → TransactionId → Polled
report_of (WaitUntil clock) i id = Waits clock
report_of Cancelled i id = Cancels i id
report_of TimedOut i id = TimesOut i id

-- one place further on
abbrev onward : Polled → Polled
onward (TimesOut i id) = TimesOut (suc i) id
onward (Cancels i id) = Cancels (suc i) id
onward (Waits m) = Waits m

module _ (t : Transport) (now : ℕ) where
  from_onward : (i least : ℕ) (l : List StunRequestState) → poll_from t now (suc i) least l ≡ onward (poll_from t now i least l)
  from_onward i least [] = refl
  from_onward i least (r ∷ rs) = rw (add-one i, add-one (suc i)) (go (poll_of t now r) (λ m. from_onward (suc i) m rs))
    where
      go : (s : StunRequestPollRet) → ((m : ℕ) → poll_from t now (suc (suc i)) m rs ≡ onward (poll_from t now (suc i) m rs))
          → reached (suc i) least r s (λ m. poll_from t now (suc (suc i)) m rs) ≡ onward (reached i least r s (λ m. poll_from t now (suc i) m rs))
      go (WaitUntil clock) ih = ih (min least clock)
      go Cancelled ih = refl
      go TimedOut ih = refl

  -- the scan from the first place on, by recursion on the list
  scan_cons : (least : ℕ) (r : StunRequestState) (rs : List StunRequestState)
      → poll_from t now 0 least (r ∷ rs) ≡ reached 0 least r (poll_of t now r) (λ m. onward (poll_from t now 0 m rs))
  scan_cons least r rs = go (poll_of t now r)
    where
      go : (s : StunRequestPollRet) → reached 0 least r s (λ m. poll_from t now 1 m rs) ≡ reached 0 least r s (λ m. onward (poll_from t now 0 m rs))
      go (WaitUntil clock) = from_onward 0 (min least clock) rs
      go Cancelled = refl
      go TimedOut = refl

  -- ---- what each answer says

  -- the request at place i, with that identifier, answers so, and all before it wait
  pub record Ended (l : List StunRequestState) (i : ℕ) (id : TransactionId) (answer : StunRequestPollRet) : Type 0 where
    pub request : StunRequestState
    pub placed : slice_get l i ≡ Some request
    pub below : i < length l
    pub id_is : request.transaction_id ≡ id
    pub answers : poll_of t now request ≡ answer
    pub before : NoneEnds t now (take i l)

  -- m is the earliest moment of those that the requests wait for, and at most `most`
  pub record Earliest (most : ℕ) (l : List StunRequestState) (m : ℕ) : Type 0 where
    pub all_wait : NoneEnds t now l
    pub capped : m ≤ most
    pub least : (i : ℕ) (r : StunRequestState) → slice_get l i ≡ Some r → (clock : ℕ) × (poll_of t now r ≡ WaitUntil clock) × (m ≤ clock)
    pub one_of : (m ≡ most) ⊎ ((i : ℕ) × (r : StunRequestState) × (slice_get l i ≡ Some r) × (poll_of t now r ≡ WaitUntil m))

  abbrev pub Says : ℕ → List StunRequestState → Polled → Type 0
  Says most l (TimesOut i id) = Ended l i id TimedOut
  Says most l (Cancels i id) = Ended l i id Cancelled
  Says most l (Waits m) = Earliest most l m

  ended_onward : (r : StunRequestState) (rs : List StunRequestState) (i : ℕ) (id : TransactionId) (answer : StunRequestPollRet)
      → ends (poll_of t now r) ≡ false → Ended rs i id answer → Ended (r ∷ rs) (suc i) id answer
  ended_onward r rs i id answer w e = record {
    request = e.request;
    placed = e.placed;
    below = omega (arith, e.below);
    id_is = e.id_is;
    answers = e.answers;
    before = (w, e.before);
  }

  earliest_onward : (r : StunRequestState) (rs : List StunRequestState) (most clock m : ℕ) → poll_of t now r ≡ WaitUntil clock
      → Earliest (min most clock) rs m → Earliest most (r ∷ rs) m
  earliest_onward r rs most clock m w e = record {
    all_wait = (ap ends w, e.all_wait);
    capped = omega (arith, e.capped);
    least = least';
    one_of = one e.one_of (leb most clock) refl;
  }
    where
      least' : (i : ℕ) (q : StunRequestState) → slice_get (r ∷ rs) i ≡ Some q → (c : ℕ) × (poll_of t now q ≡ WaitUntil c) × (m ≤ c)
      least' zero q f = (clock, ap (poll_of t now) (sym (some_same f)) ∙ w, omega (arith, e.capped))
      least' (suc i) q f = e.least i q f

      one : (m ≡ min most clock) ⊎ ((i : ℕ) × (q : StunRequestState) × (slice_get rs i ≡ Some q) × (poll_of t now q ≡ WaitUntil m))
          → (b : Bool) → leb most clock ≡ b
          → (m ≡ most) ⊎ ((i : ℕ) × (q : StunRequestState) × (slice_get (r ∷ rs) i ≡ Some q) × (poll_of t now q ≡ WaitUntil m))
      one (inl z) true b = inl (omega (arith, leb-true most clock b))
      one (inl z) false b =
          let c : clock ≡ m = omega (arith, leb-false most clock b) in
          inr (0, r, refl, w ∙ ap WaitUntil c)
      one (inr x) b g = inr (suc x.0, x.1, x.2, x.3)

  says_onward : (r : StunRequestState) (rs : List StunRequestState) (most clock : ℕ) → poll_of t now r ≡ WaitUntil clock
      → (o : Polled) → Says (min most clock) rs o → Says most (r ∷ rs) (onward o)
  says_onward r rs most clock w (TimesOut i id) e = ended_onward r rs i id TimedOut (ap ends w) e
  says_onward r rs most clock w (Cancels i id) e = ended_onward r rs i id Cancelled (ap ends w) e
  says_onward r rs most clock w (Waits m) e = earliest_onward r rs most clock m w e

  from_says : (most : ℕ) (l : List StunRequestState) → Says most l (poll_from t now 0 most l)
  from_says most [] = record { all_wait = tt; capped = omega arith; least = λ i r e. none_some e; one_of = inl refl }
  from_says most (r ∷ rs) = rw (scan_cons most r rs) (go (poll_of t now r) refl (λ m. from_says m rs))
    where
      go : (s : StunRequestPollRet) → poll_of t now r ≡ s → ((m : ℕ) → Says m rs (poll_from t now 0 m rs))
          → Says most (r ∷ rs) (reached 0 most r s (λ m. onward (poll_from t now 0 m rs)))
      go (WaitUntil clock) w ih = says_onward r rs most clock w (poll_from t now 0 (min most clock) rs) (ih (min most clock))
      go Cancelled w ih = record { request = r; placed = refl; below = omega arith; id_is = refl; answers = w; before = tt }
      go TimedOut w ih = record { request = r; placed = refl; below = omega arith; id_is = refl; answers = w; before = tt }

  module _ (l : List StunRequestState) where
    pub poll_says : Says (now + hour) l (poll_all t now l)
    poll_says = from_says (now + hour) l

    pub poll_timed_out : (i : ℕ) (id : TransactionId) → poll_all t now l ≡ TimesOut i id → Ended l i id TimedOut
    poll_timed_out i id e = rw e at poll_says

    pub poll_cancelled : (i : ℕ) (id : TransactionId) → poll_all t now l ≡ Cancels i id → Ended l i id Cancelled
    poll_cancelled i id e = rw e at poll_says

    pub poll_waits : (m : ℕ) → poll_all t now l ≡ Waits m → Earliest (now + hour) l m
    poll_waits m e = rw e at poll_says

  -- no request waits for a moment before now
  pub wait_from : (r : StunRequestState) (clock : ℕ) → poll_of t now r ≡ WaitUntil clock → now ≤ clock
  wait_from r clock e =
      let w : wait_clock now (poll_of t now r) ≡ max now (moment_of t now r) = wait_clock_lem t now r now (ap ends e) in
      let c : clock ≡ max now (moment_of t now r) = rw e at w in
      omega arith

  -- "now for an overdue one, never past now + 3,600 s"
  pub wait_least : (l : List StunRequestState) (m : ℕ) → poll_all t now l ≡ Waits m → (now ≤ m) × (m ≤ now + hour)
  wait_least l m e =
      let s = poll_waits l m e in
      (go s.one_of, s.capped)
    where
      go : (m ≡ now + hour) ⊎ ((i : ℕ) × (r : StunRequestState) × (slice_get l i ≡ Some r) × (poll_of t now r ≡ WaitUntil m)) → now ≤ m
      go (inl z) = omega arith
      go (inr x) = wait_from x.1 m x.3

  -- ---- the other way round

  pub none_ends_at : (l : List StunRequestState) (i : ℕ) (r : StunRequestState) → NoneEnds t now l → slice_get l i ≡ Some r
      → ends (poll_of t now r) ≡ false
  none_ends_at [] i r b e = none_some e
  none_ends_at (q ∷ qs) zero r b e = rw (some_same e) at b.0
  none_ends_at (q ∷ qs) (suc i) r b e = none_ends_at qs i r b.1 e

  -- a request that waits is passed by
  scan_waits : (most : ℕ) (r : StunRequestState) (rs : List StunRequestState) → ends (poll_of t now r) ≡ false
      → (m : ℕ) × (poll_from t now 0 most (r ∷ rs) ≡ onward (poll_from t now 0 m rs))
  scan_waits most r rs e = go (poll_of t now r) e (scan_cons most r rs)
    where
      go : (s : StunRequestPollRet) → ends s ≡ false
          → poll_from t now 0 most (r ∷ rs) ≡ reached 0 most r s (λ m. onward (poll_from t now 0 m rs))
          → (m : ℕ) × (poll_from t now 0 most (r ∷ rs) ≡ onward (poll_from t now 0 m rs))
      go (WaitUntil clock) e f = (min most clock, f)
      go Cancelled e f = apart e
      go TimedOut e f = apart e

  first_ended : (most : ℕ) (l : List StunRequestState) (i : ℕ) (r : StunRequestState) (a : StunRequestPollRet) → slice_get l i ≡ Some r
      → NoneEnds t now (take i l) → poll_of t now r ≡ a → ends a ≡ true → poll_from t now 0 most l ≡ report_of a i r.transaction_id
  first_ended most [] i r a e b f h = none_some e
  first_ended most (q ∷ qs) zero r a e b f h = rw (some_same e, f) (report_first a h)
    where
      report_first : (a : StunRequestPollRet) → ends a ≡ true
          → reached 0 most r a (λ m. poll_from t now 1 m qs) ≡ report_of a 0 r.transaction_id
      report_first (WaitUntil clock) h = apart (sym h)
      report_first Cancelled h = refl
      report_first TimedOut h = refl
  first_ended most (q ∷ qs) (suc i) r a e b f h =
      let s = scan_waits most q qs b.0 in
      s.1 ∙ ap onward (first_ended s.0 qs i r a e b.1 f h) ∙ report_onward a
    where
      report_onward : (a : StunRequestPollRet) → onward (report_of a i r.transaction_id) ≡ report_of a (suc i) r.transaction_id
      report_onward (WaitUntil clock) = refl
      report_onward Cancelled = refl
      report_onward TimedOut = refl

  module _ (l : List StunRequestState) where
    pub poll_first : (i : ℕ) (r : StunRequestState) → slice_get l i ≡ Some r → NoneEnds t now (take i l) → ends (poll_of t now r) ≡ true
        → poll_all t now l ≡ report_of (poll_of t now r) i r.transaction_id
    poll_first i r e b h = first_ended (now + hour) l i r (poll_of t now r) e b refl h

    -- a request that ended is not one of those that wait
    ended_not : (i : ℕ) (id : TransactionId) (answer : StunRequestPollRet) → ends answer ≡ true → Ended l i id answer → NoneEnds t now l → ⊥
    ended_not i id answer a e w =
        apart (sym a ∙ ap ends (sym e.answers) ∙ none_ends_at l i e.request w e.placed)

    pub waits_exactly : ((m : ℕ) × (poll_all t now l ≡ Waits m)) ↔ NoneEnds t now l
    waits_exactly = (λ e. (poll_waits l e.0 e.1).all_wait, λ w. go w (poll_all t now l) refl (poll_says l))
      where
        go : NoneEnds t now l → (o : Polled) → poll_all t now l ≡ o → Says (now + hour) l o → (m : ℕ) × (poll_all t now l ≡ Waits m)
        go w (TimesOut i id) e s = absurd (ended_not i id TimedOut refl s w)
        go w (Cancels i id) e s = absurd (ended_not i id Cancelled refl s w)
        go w (Waits m) e s = (m, e)

-- ---- the request r at place i, and the answer of `poll`

pub data Told (t : Transport) (now i : ℕ) (r : StunRequestState) : Polled → Type 0 where
  timed_out_lem : poll_of t now r ≡ TimedOut → Told t now i r (TimesOut i r.transaction_id)
  cancelled : poll_of t now r ≡ Cancelled → Told t now i r (Cancels i r.transaction_id)
  other_timed_out : {j : ℕ} {id : TransactionId} → (j ≡ i → ⊥) → (key id ≡ key_of r → ⊥) → Told t now i r (TimesOut j id)
  other_cancelled : {j : ℕ} {id : TransactionId} → (j ≡ i → ⊥) → (key id ≡ key_of r → ⊥) → Told t now i r (Cancels j id)
  waits : {m clock : ℕ} → poll_of t now r ≡ WaitUntil clock → m ≤ clock → Told t now i r (Waits m)

module _ (t : Transport) (now : ℕ) where
  module _ (l : List StunRequestState) (i : ℕ) (r : StunRequestState) (order : Ascending (keys_of l)) (placed : slice_get l i ≡ Some r) where
    -- a request at another place has another key
    elsewhere : (j : ℕ) (q : StunRequestState) → slice_get l j ≡ Some q → (j ≡ i → ⊥) → key_of q ≡ key_of r → ⊥
    elsewhere j q e n k =
        let a : lookup (key_of r) l ≡ Some (j, q) = rw k at (placed_found j q l order e) in
        let b : lookup (key_of r) l ≡ Some (i, r) = placed_found i r l order placed in
        n (some_pair_parts _ _ _ _ (sym a ∙ b)).0

    -- the request that ended is r, at its place; or it is another one, at another place
    which : (j : ℕ) (id : TransactionId) (answer : StunRequestPollRet) → Ended t now l j id answer
        → ((j ≡ i) × (id ≡ r.transaction_id) × (poll_of t now r ≡ answer)) ⊎ ((j ≡ i → ⊥) × (key id ≡ key_of r → ⊥))
    which j id answer s = go (eqb j i) refl
      where
        go : (b : Bool) → eqb j i ≡ b → ((j ≡ i) × (id ≡ r.transaction_id) × (poll_of t now r ≡ answer)) ⊎ ((j ≡ i → ⊥) × (key id ≡ key_of r → ⊥))
        go true b =
            let z : j ≡ i = eqb-true j i b in
            let q : s.request ≡ r = some_same (sym (rw z at s.placed) ∙ placed) in
            inl (z, rw q at (sym s.id_is), rw q at s.answers)
        go false b = let n = eqb-false j i b in inr (n, λ k. elsewhere j s.request s.placed n (ap key s.id_is ∙ k))

    pub poll_at : Told t now i r (poll_all t now l)
    poll_at = go (poll_all t now l) (poll_says t now l)
      where
        timed : (j : ℕ) (id : TransactionId) → ((j ≡ i) × (id ≡ r.transaction_id) × (poll_of t now r ≡ TimedOut)) ⊎ ((j ≡ i → ⊥) × (key id ≡ key_of r → ⊥))
            → Told t now i r (TimesOut j id)
        timed j id (inl z) = rw (z.0, z.1) (timed_out_lem z.2)
        timed j id (inr n) = other_timed_out n.0 n.1

        ceased : (j : ℕ) (id : TransactionId) → ((j ≡ i) × (id ≡ r.transaction_id) × (poll_of t now r ≡ Cancelled)) ⊎ ((j ≡ i → ⊥) × (key id ≡ key_of r → ⊥))
            → Told t now i r (Cancels j id)
        ceased j id (inl z) = rw (z.0, z.1) (cancelled z.2)
        ceased j id (inr n) = other_cancelled n.0 n.1

        go : (o : Polled) → Says t now (now + hour) l o → Told t now i r o
        go (TimesOut j id) s = timed j id (which j id TimedOut s)
        go (Cancels j id) s = ceased j id (which j id Cancelled s)
        go (Waits m) s = let w = s.least i r placed in waits w.1 w.2

  pub poll_found : (l : List StunRequestState) (k i : ℕ) (r : StunRequestState) → Ascending (keys_of l) → lookup k l ≡ Some (i, r)
      → Told t now i r (poll_all t now l)
  poll_found l k i r order e = poll_at l i r order (found_at k i r l e).placed

  -- `poll` names no request that isn't there
  pub poll_none : (l : List StunRequestState) (k i : ℕ) (id : TransactionId) (answer : StunRequestPollRet) → lookup k l ≡ None
      → Ended t now l i id answer → key id ≡ k → ⊥
  poll_none l k i id answer e s z =
      among_placed k l i s.request ((none_exactly k l).0 e) s.placed (ap key s.id_is ∙ z)
