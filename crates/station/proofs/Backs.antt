-- What the back knows of the oldest live tenant stays true, up to its own retirements.
use Rattle.std.proofs.Common.{◌≡◌, ◌⊎◌, ℕ, ◌%◌, Bool, true, false, cond, eqb, List, [], ◌∷◌, ◌++◌, map, sym, refl, ap, ◌∙◌, subst, inl, inr, ⊎_elim, arith}
use Rattle.std.specs.List.{AllByRecursion}
use Rattle.atomic_table.specs.Table.{Me}
use Rattle.instructions.specs.Programs.{Program}
use Rattle.inorder.specs.declared.history.Act.TheVariants.{Claim, Deliver, Finish, Link, Load, Mend, Retire, Speculate, Squash}
use Rattle.inorder.specs.declared.history.Entry.{Entry}
use Rattle.inorder.specs.declared.history.Event.{Event}
use Rattle.inorder.specs.declared.history.Event.TheVariants.{Does, Marks, Refuses}
use Rattle.inorder.specs.declared.history.Step.{Step}
use Rattle.inorder.specs.declared.history.Step.TheVariants.{Let, On, Renew}
use Rattle.inorder.specs.Callers.{GoesOn, head_station, is_retired}
use Rattle.inorder.specs.History.{IsLegal, MayAdd, back, entry, own, unit_of, renewals, renewed_by}
use Rattle.inorder.specs.OneHistory.{Adds}
use Rattle.inorder.specs.Legal.{Allowed, applied, changed}
use Rattle.inorder.specs.Steps.{IsNoRetiredStop}
use Rattle.inorder.specs.Tenants.{Tenant}
use Rattle.inorder.specs.Unit.{Sizes, UpdateUnit, older, younger}
use Rattle.inorder.proofs.Basics.{split_at}
use Rattle.inorder.proofs.Ends.{IsNotBacks, IsPlainAct}
use Rattle.inorder.proofs.Grows.{all_grows}
use Rattle.inorder.proofs.Heads.{goes_on_stays, head_stays, live_goes_on, over_stays}
use Rattle.inorder.proofs.Histories.{own-append, unit_sound, none_between}
use Rattle.inorder.proofs.Kept.{parts}
use Rattle.inorder.proofs.Positions.{all_at, all_from}
use Rattle.inorder.proofs.Sound.{IsSound}
use Rattle.ruu_words.specs.declared.rule.Role.TheVariants.{Back}
use Rattle.ruu_words.specs.declared.rule.View.{View}
use Rattle.station.specs.Seats.{HasRetiredStop, IsAtHead, IsSeated}
use Rattle.station.proofs.Splitting.{cut_back}
use Rattle.inorder.proofs.Recent.{counts_same}

-- A step that is neither a retirement nor a renewal, and no speculation

abbrev pub IsPlain : Step → Type 0
IsPlain (Let index predicted first second) = Unit {0}
IsPlain (On p act) = IsPlainAct act
IsPlain Renew = ⊥

is_load_or_not : (s : Step) → IsPlain s → IsNotBacks s ⊎ ((p : ℕ) × (s ≡ On p Load))
is_load_or_not (Let index predicted first second) h = inl tt
is_load_or_not (On p (Link k)) h = inl tt
is_load_or_not (On p (Deliver k)) h = inl tt
is_load_or_not (On p Claim) h = inl tt
is_load_or_not (On p Finish) h = inl tt
is_load_or_not (On p Load) h = inr (p, refl)
is_load_or_not (On p (Retire n)) h = absurd h
is_load_or_not (On p Squash) h = inl tt
is_load_or_not (On p (Speculate s)) h = absurd h
is_load_or_not (On p Mend) h = inl tt
is_load_or_not Renew h = absurd h

module _ (P : Program) (C : Sizes) where
  load_head : (U : UpdateUnit) (by p : ℕ) → Allowed P C U by (On p Load) → head_station C (applied P C U by (On p Load)) ≡ head_station C U
  load_head U by p a =
      ap (λ z. z % C.ring) (counts_same P U by p Load a.tenant a.is is_retired refl)

  load_goes_on : (U : UpdateUnit) (by p : ℕ) → Allowed P C U by (On p Load) → GoesOn U → GoesOn (applied P C U by (On p Load))
  load_goes_on U by p a g =
      let us = U.tenants in
      let t = a.tenant in
      let t' : Tenant = changed P by Load t (older us p) in
      let all = all_from IsNoRetiredStop us g in
      let now = all_grows IsNoRetiredStop t t' (older us p) (younger us p) (λ _. live_goes_on t' a.may.live) (subst (AllByRecursion IsNoRetiredStop) (split_at us p t a.is) all) in
      all_at IsNoRetiredStop (applied P C U by (On p Load)).tenants (subst (AllByRecursion IsNoRetiredStop) (sym (parts P us by p Load t a.is)) now)

  head_on : (U : UpdateUnit) (by : ℕ) (s : Step) → IsPlain s → Allowed P C U by s → head_station C (applied P C U by s) ≡ head_station C U
  head_on U by s h a = ⊎_elim
      (λ n. head_stays P C U by s n a)
      (λ (l : (p : ℕ) × (s ≡ On p Load)). subst (λ z. head_station C (applied P C U by z) ≡ head_station C U) (sym l.1) (load_head U by l.0 (subst (Allowed P C U by) l.1 a)))
      (is_load_or_not s h)

  goes_on_on : (U : UpdateUnit) (by : ℕ) (s : Step) → IsPlain s → Allowed P C U by s → IsSound P U.tenants → GoesOn U → GoesOn (applied P C U by s)
  goes_on_on U by s h a ok g = ⊎_elim
      (λ n. goes_on_stays P C U by s n a ok g)
      (λ (l : (p : ℕ) × (s ≡ On p Load)). subst (λ z. GoesOn (applied P C U by z)) (sym l.1) (load_goes_on U by l.0 (subst (Allowed P C U by) l.1 a) g))
      (is_load_or_not s h)

  ended_on : (over : Bool) (U : UpdateUnit) (by : ℕ) (s : Step) → IsPlain s → Allowed P C U by s → IsSound P U.tenants → HasRetiredStop over U → HasRetiredStop over (applied P C U by s)
  ended_on true U by s h a ok o = over_stays P C U by s a o
  ended_on false U by s h a ok g = goes_on_on U by s h a ok g

  -- Entries that are no retirement

  abbrev pub IsNoRetirement : Event → Type 0
  IsNoRetirement (Does s) = IsPlain s
  IsNoRetirement (Refuses r) = Unit {0}
  IsNoRetirement (Marks m) = Unit {0}

  abbrev pub Keeps : Entry → Type 0
  Keeps e = IsNoRetirement e.event

  only_back : (h : List Entry) (by : ℕ) (x : Event) → MayAdd P C h by x → (n : ℕ) → renewed_by x n ≡ n → eqb by back ≡ false → IsNoRetirement x
  only_back h by (Does (Let index predicted first second)) may many same ne = tt
  only_back h by (Does Renew) may many same ne = absurd (omega (arith, same))
  only_back h by (Does (On p (Link k))) may many same ne = tt
  only_back h by (Does (On p (Deliver k))) may many same ne = tt
  only_back h by (Does (On p Claim)) may many same ne = tt
  only_back h by (Does (On p Finish)) may many same ne = tt
  only_back h by (Does (On p Load)) may many same ne = tt
  only_back h by (Does (On p (Retire n))) may many same ne = let e : false ≡ true = sym ne ∙ ap (λ z. eqb z back) may.0 in absurd (cc e)
  only_back h by (Does (On p Squash)) may many same ne = tt
  only_back h by (Does (On p (Speculate s))) may many same ne = absurd may.0
  only_back h by (Does (On p Mend)) may many same ne = tt
  only_back h by (Refuses r) may many same ne = tt
  only_back h by (Marks m) may many same ne = tt

  -- the back's own entries are no retirement, and nothing is renewed, so that none is
  all_keep : (more seen : List Entry) → IsLegal P C (more ++ seen) → renewals (more ++ seen) ≡ renewals seen → AllByRecursion Keeps (own back more) → AllByRecursion Keeps more
  all_keep [] seen legal same h = tt
  all_keep (e ∷ more) seen legal same h = go (eqb e.by back) refl (all_keep more seen legal.0 before) h
    where
      before : renewals (more ++ seen) ≡ renewals seen
      before = none_between (e ∷ []) more seen same

      go : (b : Bool) → eqb e.by back ≡ b → (AllByRecursion Keeps (own back more) → AllByRecursion Keeps more) → AllByRecursion Keeps (cond b (e ∷ own back more) (own back more)) →
          AllByRecursion Keeps (e ∷ more)
      go true f rest a = (a.0, rest a.1)
      go false f rest a = (only_back (more ++ seen) e.by e.event legal.1 (renewals (more ++ seen)) (same ∙ sym before) f, rest a)

  at_head_on : (station : ℕ) (over : Bool) (more seen : List Entry) → IsLegal P C (more ++ seen) → AllByRecursion Keeps more → IsAtHead C (unit_of P C seen) station over →
      IsAtHead C (unit_of P C (more ++ seen)) station over
  at_head_on station over [] seen legal keeps i = i
  at_head_on station over (e ∷ more) seen legal keeps i = go e.by e.event legal.1 keeps.0 (at_head_on station over more seen legal.0 keeps.1 i)
    where
      go : (by : ℕ) (x : Event) → MayAdd P C (more ++ seen) by x → IsNoRetirement x → IsAtHead C (unit_of P C (more ++ seen)) station over →
          IsAtHead C (unit_of P C (entry by x ∷ (more ++ seen))) station over
      go by (Does s) may keep j = record {
        head = j.head ∙ sym (head_on (unit_of P C (more ++ seen)) by s keep may.1);
        ended = ended_on over (unit_of P C (more ++ seen)) by s keep may.1 (unit_sound P C (more ++ seen) legal.0) j.ended;
      }
      go by (Refuses r) may keep j = j
      go by (Marks m) may keep j = j

  events_keep : (es : List Event) → AllByRecursion IsNoRetirement es → AllByRecursion Keeps (map (entry back) es)
  events_keep [] h = tt
  events_keep (e ∷ es) h = (h.0, events_keep es h.1)

  -- after a call that retires nobody
  pub back_on : (by station : ℕ) (over : Bool) (old new : List Entry) (es : List Event) → Adds P C by old new es → AllByRecursion IsNoRetirement es
      → (by ≡ back → IsAtHead C (unit_of P C old) station over) → by ≡ back → IsAtHead C (unit_of P C new) station over
  back_on by station over old new es a keeps knows is =
      let more : List Entry = a.begins.more in
      let mine : own back new ≡ map (entry back) es ++ own back old = subst (λ z. own z new ≡ map (entry z) es ++ own z old) is a.mine in
      let these : own back more ≡ map (entry back) es = cut_back (own back more) (map (entry back) es) (own back old) (sym (own-append back more old) ∙ (ap (own back) (sym a.begins.is) ∙ mine)) in
      let legal : IsLegal P C (more ++ old) = subst (IsLegal P C) a.begins.is a.legal in
      let none = all_keep more old legal (sym (ap renewals a.begins.is) ∙ a.one_table) (subst (AllByRecursion Keeps) (sym these) (events_keep es keeps)) in
      subst (λ h. IsAtHead C (unit_of P C h) station over) (sym a.begins.is) (at_head_on station over more old legal none (knows is))

  pub back_seated : (by station : ℕ) (over : Bool) (v w : Me ℕ View) (es : List Event) → IsSeated P C Back by station over v → w.0.role ≡ v.0.role → w.1 ≡ v.1 → Adds P C by v.0.seen w.0.seen es →
      AllByRecursion IsNoRetirement es → IsSeated P C Back by station over w
  back_seated by station over v w es s role slots a keeps = record {
    role_is = role ∙ s.role_is;
    slots = slots ∙ s.slots;
    legal = a.legal;
    inside = s.inside;
    knows = back_on by station over v.0.seen w.0.seen es a keeps s.knows;
  }

  -- Where the back adds nothing, no stop retires
  goes_on_behind : (more seen : List Entry) → IsLegal P C (more ++ seen) → AllByRecursion Keeps more → GoesOn (unit_of P C seen) → GoesOn (unit_of P C (more ++ seen))
  goes_on_behind [] seen legal keeps g = g
  goes_on_behind (e ∷ more) seen legal keeps g = go e.by e.event legal.1 keeps.0 (goes_on_behind more seen legal.0 keeps.1 g)
    where
      go : (by : ℕ) (x : Event) → MayAdd P C (more ++ seen) by x → IsNoRetirement x → GoesOn (unit_of P C (more ++ seen)) → GoesOn (unit_of P C (entry by x ∷ (more ++ seen)))
      go by (Does s) may keep g = goes_on_on (unit_of P C (more ++ seen)) by s keep may.1 (unit_sound P C (more ++ seen) legal.0) g
      go by (Refuses r) may keep g = g
      go by (Marks m) may keep g = g

  pub stop_stays : (old new : List Entry) → Adds P C back old new [] → GoesOn (unit_of P C old) → GoesOn (unit_of P C new)
  stop_stays old new a g =
      let more : List Entry = a.begins.more in
      let these : own back more ≡ [] = cut_back (own back more) [] (own back old) (sym (own-append back more old) ∙ (ap (own back) (sym a.begins.is) ∙ a.mine)) in
      let legal : IsLegal P C (more ++ old) = subst (IsLegal P C) a.begins.is a.legal in
      let none = all_keep more old legal (sym (ap renewals a.begins.is) ∙ a.one_table) (subst (AllByRecursion Keeps) (sym these) tt) in
      subst (λ h. GoesOn (unit_of P C h)) (sym a.begins.is) (goes_on_behind more old legal none g)
