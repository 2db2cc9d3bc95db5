-- The scan of `poll_transmit`: what it keeps, which request it hands out, and what it makes of one request.
--     walk_map, walk_keys, .., walk_within             what it keeps of the list
--     walk_sends, walk_first, sent_placed, sent_key    the request that goes out is the first that would
--     quiet_exactly, walk_quiet                        none goes out
--     transmit_at, transmit_found, transmit_none       what it makes of the request at a place, or with an identifier
--     scanned, scanned_found                           the same by the request that goes out: those up to it are passed by
--     loud_met, changes_exactly                        of one that isn't silenced: that depends on the request and the clock
--     walk_by_lem                                          the scan over other places that hold a request each
use Rattle.std.specs.Prelude.{Option, None, Some, slice_get}
use Prim.Native.Nat.{ℕ, zero, suc, ◌≤◌, ◌<◌}
use mathlib.Core.Path.{◌≡◌, refl, sym, ap, ◌∙◌, subst}
use mathlib.Core.Bool.{Bool, true, false, cond}
use mathlib.Core.Logic.{◌↔◌}
use mathlib.Core.List.{List, [], ◌∷◌, ◌++◌, map}
use native.Mathlib.Omega.{arith}
use lib.Dec.{eqb, leb}
use lib.ListN.{length, take, drop, length-map}
use borrow.Author.Tests.{eqb-false, le-leb, lt-leb}
use Rattle.rows.specs.Lists.{among}
use Rattle.message.specs.Head.{key}
use Rattle.waits.specs.declared.Transport.{Transport}
use Rattle.request.specs.Request.{stepped, transmit_of}
use Rattle.request.specs.Answers.{goes_out, record_after}
use Rattle.request.specs.Kept.{SameRequest}
use Rattle.request.specs.declared.StunRequestState.{StunRequestState}
use Rattle.request.specs.declared.StunRequestTransmit.{StunRequestTransmit}
use Rattle.request.specs.declared.StunRequestTransmit.TheVariants.{Rests, Passes, Goes}
use Rattle.request.proofs.Kept.{same_itself, same_stepped, same_transmit}
use Rattle.request.proofs.Moments.{goes_stepped, loud_stays, stepped_changes}
use Rattle.request.proofs.Limits.{transmit_limits}
use Rattle.request.specs.Limits.{RequestLimits}
use Rattle.requests.specs.Search.{key_of, keys_of, row_of, rows_of, lookup}
use Rattle.requests.specs.Scan.{Walk, meet, walk_by, walk}
use Rattle.requests.specs.Formed.{Ascending, AllWithin}
use Rattle.requests.proofs.Lists.{apart, some_same, none_some, neither, ascending_tail, ascending_absent}
use Rattle.requests.proofs.Search.{later_within, found_at, none_exactly, placed_found, placed_other}

-- the request after `poll_transmit` reached it
abbrev pub passed_by : Transport → ℕ → StunRequestState → StunRequestState
passed_by t now r = record_after r (transmit_of t now r)

-- each of them rests or passes silently
abbrev pub NoneGoes : Transport → ℕ → List StunRequestState → Type 0
NoneGoes t now [] = Unit
NoneGoes t now (r ∷ rs) = (goes_out (transmit_of t now r) ≡ false) × NoneGoes t now rs

-- the scan over r and rs, where r's answer is known
abbrev walk_on : Transport → ℕ → StunRequestTransmit → StunRequestState → List StunRequestState → Walk StunRequestState
walk_on t now s r rs = meet (λ q. q) s r rs (walk t now rs)

-- ---- what the scan keeps

module _ (t : Transport) (now : ℕ) where
  -- whatever is the same in each record of one request
  pub walk_map : {B : Type 0} (f : StunRequestState → B) → ((r q : StunRequestState) → SameRequest r q → f q ≡ f r) → (l : List StunRequestState)
      → map f (walk t now l).after ≡ map f l
  walk_map f same [] = refl
  walk_map {B} f same (r ∷ rs) = go (transmit_of t now r) (same r (passed_by t now r) (same_transmit r now t)) (walk_map f same rs)
    where
      go : (s : StunRequestTransmit) → f (record_after r s) ≡ f r → map f (walk t now rs).after ≡ map f rs
          → map f (walk_on t now s r rs).after ≡ f r ∷ map f rs
      go (Goes p) k ih = ap (λ (x : B). x ∷ map f rs) k
      go (Passes p) k ih = rw (k, ih)
      go Rests k ih = rw ih

  pub walk_keys : (l : List StunRequestState) → keys_of (walk t now l).after ≡ keys_of l
  walk_keys l = walk_map key_of (λ r q s. ap key s.id) l

  pub walk_rows : (l : List StunRequestState) → rows_of (walk t now l).after ≡ rows_of l
  walk_rows l = walk_map row_of (λ r q s. s.row) l

  pub walk_length : (l : List StunRequestState) → length (walk t now l).after ≡ length l
  walk_length l = sym (length-map (walk t now l).after key_of) ∙ ap length (walk_keys l) ∙ length-map l key_of

  module _ (rows mark : ℕ) (h : mark ≤ now) where
    pub walk_within : (l : List StunRequestState) → AllWithin rows mark l → AllWithin rows now (walk t now l).after
    walk_within [] w = tt
    walk_within (r ∷ rs) w =
        go (transmit_of t now r) (transmit_limits rows mark r w.0 t now h) (walk_within rs w.1)
      where
        go : (s : StunRequestTransmit) → RequestLimits rows now (record_after r s) → AllWithin rows now (walk t now rs).after
            → AllWithin rows now (walk_on t now s r rs).after
        go (Goes p) k ih = (k, later_within rows mark now h rs w.1)
        go (Passes p) k ih = (k, ih)
        go Rests k ih = (k, ih)

  -- ---- which request goes out

  -- p went out of l: the first request that would, now p; those before it were passed by, those behind it are untouched
  pub record SentFrom (l : List StunRequestState) (p : StunRequestState) (after : List StunRequestState) : Type 0 where
    pub place : ℕ
    pub request : StunRequestState
    pub placed : slice_get l place ≡ Some request
    pub goes : transmit_of t now request ≡ Goes p
    pub before : NoneGoes t now (take place l)
    pub becomes : after ≡ map (passed_by t now) (take place l) ++ (p ∷ drop (suc place) l)

  sent_onward : (r q p : StunRequestState) (rs after : List StunRequestState) → goes_out (transmit_of t now r) ≡ false → passed_by t now r ≡ q
      → SentFrom rs p after → SentFrom (r ∷ rs) p (q ∷ after)
  sent_onward r q p rs after g z s = record {
    place = suc s.place;
    request = s.request;
    placed = s.placed;
    goes = s.goes;
    before = (g, s.before);
    becomes = rw z (ap (λ (x : List StunRequestState). q ∷ x) s.becomes);
  }

  pub walk_sends : (l : List StunRequestState) (p : StunRequestState) → (walk t now l).out ≡ Some p → SentFrom l p (walk t now l).after
  walk_sends [] p e = let z : ◌≡◌ {A = ℕ} 0 1 = cc in absurd (omega arith)
  walk_sends (r ∷ rs) p e = go (transmit_of t now r) refl e (walk_sends rs p)
    where
      go : (s : StunRequestTransmit) → transmit_of t now r ≡ s → (walk_on t now s r rs).out ≡ Some p
          → ((walk t now rs).out ≡ Some p → SentFrom rs p (walk t now rs).after) → SentFrom (r ∷ rs) p (walk_on t now s r rs).after
      go (Goes q) b h ih =
          let z : q ≡ p = cc in
          record { place = 0; request = r; placed = refl; goes = b ∙ ap Goes z; before = tt; becomes = ap (λ (x : StunRequestState). x ∷ rs) z }
      go (Passes q) b h ih = sent_onward r q p rs (walk t now rs).after (ap goes_out b) (ap (record_after r) b) (ih h)
      go Rests b h ih = sent_onward r r p rs (walk t now rs).after (ap goes_out b) (ap (record_after r) b) (ih h)

  -- a request that doesn't go out is passed by
  met_quiet : (r : StunRequestState) (rs : List StunRequestState) → goes_out (transmit_of t now r) ≡ false
      → walk t now (r ∷ rs) ≡ record { out = (walk t now rs).out; after = passed_by t now r ∷ (walk t now rs).after }
  met_quiet r rs e = go (transmit_of t now r) e
    where
      go : (s : StunRequestTransmit) → goes_out s ≡ false → walk_on t now s r rs ≡ record { out = (walk t now rs).out; after = record_after r s ∷ (walk t now rs).after }
      go (Goes p) e = apart e
      go (Passes p) e = refl
      go Rests e = refl

  -- and the first that goes out is the one
  pub walk_first : (l : List StunRequestState) (i : ℕ) (r p : StunRequestState) → slice_get l i ≡ Some r → transmit_of t now r ≡ Goes p
      → NoneGoes t now (take i l) → walk t now l ≡ record { out = Some p; after = map (passed_by t now) (take i l) ++ (p ∷ drop (suc i) l) }
  walk_first [] i r p e g b = none_some e
  walk_first (q ∷ qs) zero r p e g b = rw (ap (transmit_of t now) (some_same e) ∙ g)
  walk_first (q ∷ qs) (suc i) r p e g b = met_quiet q qs b.0 ∙ rw (walk_first qs i r p e g b.1)

  pub walk_quiet : (l : List StunRequestState) → NoneGoes t now l → walk t now l ≡ record { out = None; after = map (passed_by t now) l }
  walk_quiet [] b = refl
  walk_quiet (r ∷ rs) b = met_quiet r rs b.0 ∙ rw (walk_quiet rs b.1)

  quiet_says : (l : List StunRequestState) → (walk t now l).out ≡ None → NoneGoes t now l
  quiet_says [] e = tt
  quiet_says (r ∷ rs) e = go (transmit_of t now r) e (quiet_says rs)
    where
      go : (s : StunRequestTransmit) → (walk_on t now s r rs).out ≡ None → ((walk t now rs).out ≡ None → NoneGoes t now rs)
          → (goes_out s ≡ false) × NoneGoes t now rs
      go (Goes p) h ih = let z : ◌≡◌ {A = ℕ} 0 1 = cc in absurd (omega arith)
      go (Passes p) h ih = (refl, ih h)
      go Rests h ih = (refl, ih h)

  pub quiet_exactly : (l : List StunRequestState) → ((walk t now l).out ≡ None) ↔ NoneGoes t now l
  quiet_exactly l = (quiet_says l, λ b. ap (λ (w : Walk StunRequestState). w.out) (walk_quiet l b))

  pub none_goes_at : (l : List StunRequestState) (i : ℕ) (r : StunRequestState) → NoneGoes t now l → slice_get l i ≡ Some r
      → goes_out (transmit_of t now r) ≡ false
  none_goes_at [] i r b e = none_some e
  none_goes_at (q ∷ qs) zero r b e = rw (some_same e) at b.0
  none_goes_at (q ∷ qs) (suc i) r b e = none_goes_at qs i r b.1 e

-- ---- the request that goes out, afterwards

module _ (t : Transport) (now : ℕ) where
  -- a record of the same request
  pub goes_same : (r p : StunRequestState) → transmit_of t now r ≡ Goes p → SameRequest r p
  goes_same r p e = rw e at (same_transmit r now t)

  passed_placed : (l : List StunRequestState) (i : ℕ) (r p : StunRequestState) (rest : List StunRequestState) → slice_get l i ≡ Some r
      → slice_get (map (passed_by t now) (take i l) ++ (p ∷ rest)) i ≡ Some p
  passed_placed [] i r p rest e = none_some e
  passed_placed (q ∷ qs) zero r p rest e = refl
  passed_placed (q ∷ qs) (suc i) r p rest e = passed_placed qs i r p rest e

  module _ (l : List StunRequestState) (p : StunRequestState) (after : List StunRequestState) (s : SentFrom t now l p after) where
    -- it stands in its place
    pub sent_placed : slice_get after s.place ≡ Some p
    sent_placed = rw s.becomes (passed_placed l s.place s.request p (drop (suc s.place) l) s.placed)

    -- and has the key that it had
    pub sent_key : key_of p ≡ key_of s.request
    sent_key = ap key (goes_same s.request p s.goes).id

-- ---- what the scan makes of one request

-- another request than that with the key k goes out, or none
abbrev pub OtherKey : ℕ → Option StunRequestState → Type 0
OtherKey k (Some p) = key_of p ≡ k → ⊥
OtherKey k None = Unit

-- r, and what the scan with that answer leaves in its place
pub data Met (t : Transport) (now : ℕ) (r : StunRequestState) : Option StunRequestState → StunRequestState → Type 0 where
  sent : {p : StunRequestState} → transmit_of t now r ≡ Goes p → Met t now r (Some p) p
  passed : {o : Option StunRequestState} → goes_out (transmit_of t now r) ≡ false → OtherKey (key_of r) o → Met t now r o (passed_by t now r)
  unreached : {p : StunRequestState} → (key_of p ≡ key_of r → ⊥) → Met t now r (Some p) r

pub met_same : {t : Transport} {now : ℕ} {r q : StunRequestState} {o : Option StunRequestState} → Met t now r o q → SameRequest r q
met_same {t} {now} {r} (sent {p} e) = goes_same t now r p e
met_same {t} {now} {r} (passed e k) = same_transmit r now t
met_same {r} (unreached k) = same_itself r

module _ (t : Transport) (now : ℕ) where
  -- no request with the key k: none goes out
  other_out : (k : ℕ) (l : List StunRequestState) → among k (keys_of l) ≡ false → OtherKey k (walk t now l).out
  other_out k [] n = tt
  other_out k (r ∷ rs) n = go (transmit_of t now r) refl (other_out k rs p.1)
    where
      p : (eqb (key_of r) k ≡ false) × (among k (keys_of rs) ≡ false)
      p = neither (eqb (key_of r) k) (among k (keys_of rs)) n

      go : (s : StunRequestTransmit) → transmit_of t now r ≡ s → OtherKey k (walk t now rs).out → OtherKey k (walk_on t now s r rs).out
      go (Goes q) e ih = λ z. eqb-false (key_of r) k p.0 (sym (ap key (goes_same t now r q e).id) ∙ z)
      go (Passes q) e ih = ih
      go Rests e ih = ih

  pub transmit_at : (l : List StunRequestState) (i : ℕ) (r : StunRequestState) → Ascending (keys_of l) → slice_get l i ≡ Some r
      → (q : StunRequestState) × (slice_get (walk t now l).after i ≡ Some q) × Met t now r (walk t now l).out q
  transmit_at [] i r s e = none_some e
  transmit_at (x ∷ xs) zero r s e = rw (some_same e) (go (transmit_of t now r) refl)
    where
      absent : OtherKey (key_of r) (walk t now xs).out
      absent = other_out (key_of r) xs (ascending_absent (key_of x) (key_of r) (keys_of xs) s (omega (arith, ap key_of (some_same e))))

      as_passed : (q : StunRequestState) → passed_by t now r ≡ q → goes_out (transmit_of t now r) ≡ false → Met t now r (walk t now xs).out q
      as_passed q z g = subst (λ (u : StunRequestState). Met t now r (walk t now xs).out u) z (passed g absent)

      go : (a : StunRequestTransmit) → transmit_of t now r ≡ a
          → (q : StunRequestState) × (slice_get (walk_on t now a r xs).after 0 ≡ Some q) × Met t now r (walk_on t now a r xs).out q
      go (Goes p) b = (p, refl, sent b)
      go (Passes p) b = (p, refl, as_passed p (ap (record_after r) b) (ap goes_out b))
      go Rests b = (r, refl, as_passed r (ap (record_after r) b) (ap goes_out b))
  transmit_at (x ∷ xs) (suc i) r s e =
      go (transmit_of t now x) refl (transmit_at xs i r (ascending_tail (key_of x) (keys_of xs) s) e)
    where
      go : (a : StunRequestTransmit) → transmit_of t now x ≡ a
          → (q : StunRequestState) × (slice_get (walk t now xs).after i ≡ Some q) × Met t now r (walk t now xs).out q
          → (q : StunRequestState) × (slice_get (walk_on t now a x xs).after (suc i) ≡ Some q) × Met t now r (walk_on t now a x xs).out q
      go (Goes p) b ih =
          (r, e, unreached (λ z. placed_other (key_of x) i r xs s e (sym (ap key (goes_same t now x p b).id) ∙ z)))
      go (Passes p) b ih = ih
      go Rests b ih = ih

  -- the same of the request with an identifier
  pub transmit_found : (l : List StunRequestState) (k i : ℕ) (r : StunRequestState) → Ascending (keys_of l) → lookup k l ≡ Some (i, r)
      → (q : StunRequestState) × (lookup k (walk t now l).after ≡ Some (i, q)) × Met t now r (walk t now l).out q
  transmit_found l k i r s e =
      let f = found_at k i r l e in
      let m = transmit_at l i r s f.placed in
      let same : key_of m.0 ≡ k = ap key (met_same m.2).id ∙ f.key_is in
      let order : Ascending (keys_of (walk t now l).after) = rw (walk_keys t now l) s in
      (m.0, rw same at (placed_found i m.0 (walk t now l).after order m.1), m.2)

  pub transmit_none : (l : List StunRequestState) (k : ℕ) → lookup k l ≡ None
      → (lookup k (walk t now l).after ≡ None) × OtherKey k (walk t now l).out
  transmit_none l k e =
      let n : among k (keys_of l) ≡ false = (none_exactly k l).0 e in
      ((none_exactly k (walk t now l).after).1 (rw (walk_keys t now l) n), other_out k l n)

-- ---- the same by the request that goes out

-- the request r after a scan that found o: passed by, unless it stands behind the one that went out
abbrev pub scanned : Transport → ℕ → Option StunRequestState → StunRequestState → StunRequestState
scanned t now (Some p) r = cond (leb (key_of r) (key_of p)) (passed_by t now r) r
scanned t now None r = passed_by t now r

placed_above : (a i : ℕ) (r : StunRequestState) (l : List StunRequestState) → Ascending (a ∷ keys_of l) → slice_get l i ≡ Some r → a < key_of r
placed_above a i r [] s e = none_some e
placed_above a zero r (q ∷ l) s e = let z : key_of q ≡ key_of r = ap key_of (some_same e) in omega (arith, s.0)
placed_above a (suc i) r (q ∷ l) s e = omega (arith, s.0, placed_above (key_of q) i r l s.1 e)

module _ (t : Transport) (now : ℕ) where
  -- the first request, where another one went out or none
  first_scanned : (r : StunRequestState) (rs : List StunRequestState) → Ascending (keys_of (r ∷ rs)) → (o : Option StunRequestState) → (walk t now rs).out ≡ o
      → passed_by t now r ≡ scanned t now o r
  first_scanned r rs s (Some p) e =
      let f = walk_sends t now rs p e in
      let k : key_of p ≡ key_of f.request = sent_key t now rs p (walk t now rs).after f in
      let h : key_of r ≤ key_of p = omega (arith, k, placed_above (key_of r) f.place f.request rs s f.placed) in
      rw (le-leb (key_of r) (key_of p) h)
  first_scanned r rs s None e = refl

  scanned_at : (l : List StunRequestState) (i : ℕ) (r : StunRequestState) → Ascending (keys_of l) → slice_get l i ≡ Some r
      → slice_get (walk t now l).after i ≡ Some (scanned t now (walk t now l).out r)
  scanned_at [] i r s e = none_some e
  scanned_at (x ∷ xs) zero r s e =
      go (transmit_of t now x) refl ∙ ap (λ (q : StunRequestState). Some (scanned t now (walk t now (x ∷ xs)).out q)) (some_same e)
    where
      passes : (q : StunRequestState) → passed_by t now x ≡ q → Some q ≡ Some (scanned t now (walk t now xs).out x)
      passes q z = ap Some (sym z ∙ first_scanned x xs s (walk t now xs).out refl)

      go : (a : StunRequestTransmit) → transmit_of t now x ≡ a
          → slice_get (walk_on t now a x xs).after 0 ≡ Some (scanned t now (walk_on t now a x xs).out x)
      go (Goes p) b =
          let k : key_of p ≡ key_of x = ap key (goes_same t now x p b).id in
          rw (le-leb (key_of x) (key_of p) (omega arith), b)
      go (Passes p) b = passes p (ap (record_after x) b)
      go Rests b = passes x (ap (record_after x) b)
  scanned_at (x ∷ xs) (suc i) r s e = go (transmit_of t now x) refl (scanned_at xs i r (ascending_tail (key_of x) (keys_of xs) s) e)
    where
      go : (a : StunRequestTransmit) → transmit_of t now x ≡ a → slice_get (walk t now xs).after i ≡ Some (scanned t now (walk t now xs).out r)
          → slice_get (walk_on t now a x xs).after (suc i) ≡ Some (scanned t now (walk_on t now a x xs).out r)
      go (Goes p) b ih =
          let k : key_of p ≡ key_of x = ap key (goes_same t now x p b).id in
          rw (lt-leb (key_of r) (key_of p) (omega (arith, placed_above (key_of x) i r xs s e))) e
      go (Passes p) b ih = ih
      go Rests b ih = ih

  scanned_key : (o : Option StunRequestState) (r : StunRequestState) → key_of (scanned t now o r) ≡ key_of r
  scanned_key (Some p) r = go (leb (key_of r) (key_of p))
    where
      go : (b : Bool) → key_of (cond b (passed_by t now r) r) ≡ key_of r
      go true = ap key (same_transmit r now t).id
      go false = refl
  scanned_key None r = ap key (same_transmit r now t).id

  pub scanned_found : (l : List StunRequestState) (k i : ℕ) (r : StunRequestState) → Ascending (keys_of l) → lookup k l ≡ Some (i, r)
      → lookup k (walk t now l).after ≡ Some (i, (scanned t now (walk t now l).out r))
  scanned_found l k i r s e =
      let f = found_at k i r l e in
      let q = scanned t now (walk t now l).out r in
      let same : key_of q ≡ k = scanned_key (walk t now l).out r ∙ f.key_is in
      let order : Ascending (keys_of (walk t now l).after) = rw (walk_keys t now l) s in
      rw same at (placed_found i q (walk t now l).after order (scanned_at l i r s f.placed))

-- ---- a request that isn't silenced

-- it goes out and is stepped, or it stays as it is: another one goes out, or it isn't due and none does
pub data MetLoud (t : Transport) (now : ℕ) (r : StunRequestState) : Option StunRequestState → StunRequestState → Type 0 where
  goes : goes_out (transmit_of t now r) ≡ true → MetLoud t now r (Some (stepped now r)) (stepped now r)
  other : {p : StunRequestState} → (key_of p ≡ key_of r → ⊥) → MetLoud t now r (Some p) r
  none_goes : goes_out (transmit_of t now r) ≡ false → MetLoud t now r None r

module _ (t : Transport) (now : ℕ) (r : StunRequestState) (loud : r.send_cancelled ≡ false) where
  pub loud_met : {o : Option StunRequestState} {q : StunRequestState} → Met t now r o q → MetLoud t now r o q
  loud_met (sent {p} e) =
      subst (λ (u : StunRequestState). MetLoud t now r (Some u) u) (goes_stepped t now r p e) (goes (ap goes_out e))
  loud_met (passed {o} e k) = rw (loud_stays t now r loud e) (go o k)
    where
      go : (o : Option StunRequestState) → OtherKey (key_of r) o → MetLoud t now r o r
      go (Some p) k = other k
      go None k = none_goes e
  loud_met (unreached k) = other k

-- it changes exactly when it is the one that goes out
pub changes_exactly : {t : Transport} {now : ℕ} {r q : StunRequestState} {o : Option StunRequestState} → MetLoud t now r o q
    → (q ≡ r → ⊥) ↔ (o ≡ Some (stepped now r))
changes_exactly {t} {now} {r} (goes e) = (λ n. refl, λ s z. stepped_changes now r z)
changes_exactly {t} {now} {r} (other {p} n) = (
  λ f. absurd (f refl),
  λ s z. let e : p ≡ stepped now r = cc in n (ap key_of e ∙ ap key (same_stepped r now).id),
)
changes_exactly {t} {now} {r} (none_goes e) = (λ f. absurd (f refl), λ s z. let y : ◌≡◌ {A = ℕ} 0 1 = cc in omega arith)

-- ---- the same scan over other places, such as the rows of a table

module _ {A : Type 0} (get : A → StunRequestState) (new : StunRequestState → A) (t : Transport) (now : ℕ) where
  -- each place made anew with the record that the scan leaves reads as that record
  abbrev pub Renews : List A → Type 0
  Renews [] = Unit
  Renews (x ∷ xs) = (get (new (passed_by t now (get x))) ≡ passed_by t now (get x)) × Renews xs

  -- the scan finds the same, and the places read as the requests that it leaves
  pub walk_by_lem : (xs : List A) → Renews xs
      → ((walk_by get new t now xs).out ≡ (walk t now (map get xs)).out) × (map get (walk_by get new t now xs).after ≡ (walk t now (map get xs)).after)
  walk_by_lem [] n = (refl, refl)
  walk_by_lem (x ∷ xs) n = go (transmit_of t now (get x)) n.0 (walk_by_lem xs n.1)
    where
      go : (s : StunRequestTransmit) → get (new (record_after (get x) s)) ≡ record_after (get x) s
          → ((walk_by get new t now xs).out ≡ (walk t now (map get xs)).out) × (map get (walk_by get new t now xs).after ≡ (walk t now (map get xs)).after)
          → ((meet new s x xs (walk_by get new t now xs)).out ≡ (walk_on t now s (get x) (map get xs)).out)
          × (map get (meet new s x xs (walk_by get new t now xs)).after ≡ (walk_on t now s (get x) (map get xs)).after)
      go (Goes p) k ih = (refl, rw k)
      go (Passes p) k ih = (ih.0, rw (k, ih.1))
      go Rests k ih = (ih.0, rw ih.1)
