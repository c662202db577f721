-- The steps of a recovery, with what others add between them.
use Rattle.std.proofs.Common.{◌≡◌, ◌≢◌, ℕ, ◌<◌, List, [], ◌∷◌, ◌++◌, Some, sym, ap, ◌∙◌, subst, ⊎_elim, arith, append_assoc}
use Rattle.std.specs.Prelude.{slice_get}
use Rattle.instructions.specs.Programs.{Program}
use Rattle.inorder.specs.declared.history.Act.{Act}
use Rattle.inorder.specs.declared.history.Act.TheVariants.{Mend, Squash}
use Rattle.inorder.specs.declared.history.Entry.{Entry}
use Rattle.inorder.specs.declared.history.Event.TheVariants.{Does}
use Rattle.inorder.specs.declared.history.Step.TheVariants.{On}
use Rattle.inorder.specs.History.{IsLegal, entry, front, unit_of, renewals}
use Rattle.inorder.specs.OneHistory.{Adds}
use Rattle.inorder.specs.Legal.{Allowed, applied}
use Rattle.inorder.specs.Unit.{Sizes, UpdateUnit}
use Rattle.inorder.proofs.Histories.{unit_sound}
use Rattle.inorder.proofs.Moves.{IsActed, IsLeft, at_changed}
use Rattle.ruu_words.specs.Kinds.{IsNamed}
use Rattle.ruu_words.proofs.Stays.{named_of, named_stays}
use Rattle.ruu_words.proofs.StationWords.{one_tag}
use Rattle.front.specs.declared.path.base_state.Base.{Base}
use Rattle.front.specs.declared.path.record.Record.{Record}
use Rattle.front.specs.Knows.{FrontKnows}
use Rattle.front.proofs.CutKnown.{mend_known, squash_known}
use Rattle.front.proofs.Splitting.{stays, stays_behind}
use Rattle.front.proofs.Stays.{knows_stable}
use Rattle.inorder.proofs.Recent.{old_kept}
use Rattle.front.proofs.YoungestRecord.{IsMissOf, acts_at, knows_at, last_missing, last_position, miss_older, missing_stable, youngest_note}

-- an act elsewhere
elsewhere : (P : Program) (C : Sizes) (U : UpdateUnit) (by p q : ℕ) (act : Act) (x : Record) (next : ℕ) → (a : Allowed P C U by (On p act)) → q ≢ p → IsMissOf q x next U
    → IsMissOf q x next (applied P C U by (On p act))
elsewhere P C U by p q act x next a ne m = ⊎_elim
    (λ (z : IsActed P U.tenants by p act a.tenant q m.tenant). absurd (ne z.position))
    (λ (z : IsLeft P U.tenants by p act q m.tenant). record {
      tenant = m.tenant;
      is = z.now;
      new = old_kept P C U by (On p act) (λ e. cc e) a q ∙ m.new;
      station_is = m.station_is;
      tag_is = m.tag_is;
      fact = m.fact;
    })
    (at_changed P U.tenants by p act a.tenant a.is q m.tenant m.is)

less_not : (p q : ℕ) → p < q → p ≢ q
less_not p q h e = absurd (omega (arith, h, e))

module _ (P : Program) (C : Sizes) (old new : List Entry) (rest : List Record) (one : Record) (base : Base) (k : FrontKnows P C (unit_of P C old) (rest ++ one ∷ []) base) where
  -- after a squash
  pub record SquashedOne (i : ℕ) (r : Record) (next q : ℕ) : Type 0 where
    pub knows : FrontKnows P C (unit_of P C new) rest base
    pub miss : IsMissOf q r next (unit_of P C new)

  pub squash_step : (p : ℕ) → Adds P C front old new (Does (On p Squash) ∷ []) → (i : ℕ) (r : Record) (next q : ℕ) → slice_get rest i ≡ Some r → IsMissOf q r next (unit_of P C old)
      → SquashedOne i r next q
  squash_step p adds i r next q e m =
      let s = knows_at P C old new (rest ++ one ∷ []) base k (Does (On p Squash)) adds in
      let l = s.last in
      let a = s.legal.1.1 in
      let missing = stays P C (IsMissOf q r next) (missing_stable P C q r next) old l.point l.before m in
      let ok = unit_sound P C l.point s.legal.0 in
      let last = youngest_note P C l.point s.legal.0 rest one base s.knows in
      let some : rest ≢ [] = λ none. let no : slice_get [] i ≡ Some r = ap (λ z. slice_get z i) (sym none) ∙ e in absurd (cc no) in
      let behind = squash_known P C (unit_of P C l.point) ok front p base a rest one s.knows last.front last.one last.is some in
      let at_p = acts_at P C l.point s.legal.0 rest one base s.knows p a.tenant a.is a.may.live a.may.youngest in
      let less = miss_older P C l.point s.legal.0 rest one base s.knows i r next q e missing in
      let ne : q ≢ p = less_not q p (subst (λ z. q < z) (sym at_p) less) in
      record {
        knows = stays_behind P C (λ U. FrontKnows P C U rest base) (knows_stable P C rest base) old new (Does (On p Squash)) [] l behind;
        miss = stays_behind P C (IsMissOf q r next) (missing_stable P C q r next) old new (Does (On p Squash)) [] l (elsewhere P C (unit_of P C l.point) front p q Squash r next a ne missing);
      }

  pub record MendedOne (p next : ℕ) : Type 0 where
    pub knows : FrontKnows P C (unit_of P C new) (rest ++ record one { next = next } ∷ []) base
    pub named : IsNamed (unit_of P C new) p one.station one.tag
    pub same : (q : ℕ) → IsMissOf q one next (unit_of P C old) → q ≡ p

  pub mend_step : (p : ℕ) → Adds P C front old new (Does (On p Mend) ∷ []) → (next q : ℕ) → IsMissOf q one next (unit_of P C old) → MendedOne p next
  mend_step p adds next q m =
      let s = knows_at P C old new (rest ++ one ∷ []) base k (Does (On p Mend)) adds in
      let l = s.last in
      let a = s.legal.1.1 in
      let missing : IsMissOf q one next (unit_of P C l.point) = stays P C (IsMissOf q one next) (missing_stable P C q one next) old l.point l.before m in
      let ok = unit_sound P C l.point s.legal.0 in
      let last = youngest_note P C l.point s.legal.0 rest one base s.knows in
      let its = last_missing P C l.point s.legal.0 rest one base s.knows next q missing in
      let behind = mend_known P C (unit_of P C l.point) ok front p base a rest one s.knows last.front last.one last.is next its in
      let at_p = acts_at P C l.point s.legal.0 rest one base s.knows p a.tenant a.is a.may.live a.may.youngest in
      let at_q = last_position P C l.point s.legal.0 rest one base s.knows next q missing in
      let same : q ≡ p = at_q ∙ sym at_p in
      let point_named : IsNamed (unit_of P C l.point) p one.station one.tag = subst (λ z. IsNamed (unit_of P C l.point) z one.station one.tag) same
      (named_of missing) in
      let long : (l.after ++ entry front (Does (On p Mend)) ∷ []) ++ l.point ≡ l.after ++ entry front (Does (On p Mend)) ∷ l.point = append_assoc l.after (entry front (Does (On p Mend)) ∷ []) l.point
      in
      let named = named_stays P C p one.station one.tag (l.after ++ entry front (Does (On p Mend)) ∷ []) l.point (subst (IsLegal P C) (sym long) l.legal) (ap renewals (long ∙ sym l.is) ∙ l.since)
      point_named in
      record {
        knows = stays_behind P C (λ U. FrontKnows P C U (rest ++ record one { next = next } ∷ []) base) (knows_stable P C (rest ++ record one { next = next } ∷ []) base) old new (Does (On p Mend)) []
            l behind;
        named = subst (λ z. IsNamed (unit_of P C z) p one.station one.tag) (long ∙ sym l.is) named;
        same = λ r mr. one_named_old r q mr m ∙ same;
      }
    where
      one_named_old : (r q : ℕ) → IsMissOf r one next (unit_of P C old) → IsMissOf q one next (unit_of P C old) → r ≡ q
      one_named_old r q mr m = one_tag P C old (adds_old) r q mr.tenant m.tenant mr.is m.is mr.new m.new (mr.station_is ∙ sym m.station_is) (mr.tag_is ∙ sym m.tag_is)
        where
          adds_old : IsLegal P C old
          adds_old = Rattle.inorder.proofs.Histories.legal_before P C adds.begins.more old (subst (IsLegal P C) adds.begins.is adds.legal)
