-- The exchange of a finish.
use Rattle.std.proofs.Common.{◌≡◌, ◌≢◌, ℕ, suc, ◌==◌, List, ◌++◌, Some, refl, sym, ◌∙◌, subst, inl, inr, ⊎_elim, arith}
use prog.Atomic.{either}
use Rattle.atomic_table.proofs.Lists.{exchanged}
use Rattle.instructions.specs.Programs.{Program}
use Rattle.instructions.specs.declared.stop.Outcome.{Outcome}
use Rattle.instructions.specs.declared.stop.Outcome.TheVariants.{Address, Next, Pair, Stop as Stops, Value}
use Rattle.inorder.specs.declared.history.Act.TheVariants.{Finish}
use Rattle.inorder.specs.declared.history.Entry.{Entry}
use Rattle.inorder.specs.declared.history.Refusal.TheVariants.{Stale}
use Rattle.inorder.specs.declared.history.Step.{Step}
use Rattle.inorder.specs.Callers.{HasJob}
use Rattle.inorder.specs.History.{IsUnit, IsUnitOrBack, unit_of}
use Rattle.inorder.specs.StationWords.{live_word, station_word, station_word_of}
use Rattle.inorder.specs.Steps.{finished}
use Rattle.inorder.specs.Tenants.{Addr, Busy, Done, Fate, Live, Squashed, Stopped, Tenant}
use Rattle.inorder.specs.Unit.{Sizes, recent}
use Rattle.inorder.proofs.Moves.{Goes}
use Rattle.inorder.specs.Replies.{IsSquashed}
use Rattle.ruu_words.specs.declared.place.Place.TheVariants.{Station}
use Rattle.ruu_words.specs.declared.rule.Role.TheVariants.{Worker}
use Rattle.ruu_words.specs.declared.rule.View.{View}
use Rattle.ruu_words.specs.Content.{IsStation}
use Rattle.ruu_words.specs.Kinds.{Finishes, IsTenant, fate_of}
use Rattle.ruu_words.specs.Views.{IsCaller}
use Rattle.ruu_words.proofs.Building.{changes, tells}
use Rattle.ruu_words.specs.Plans.{Plan, Plans}
use Rattle.ruu_words.proofs.StationWords.{its_word, one_live, still_live, the_tenant}
use Rattle.ruu_words.proofs.Stays.{computed_stays, ready_stays, tenant_stays_apart, with_fact}

finished_word : (t : Tenant) (o : Outcome) (k n : ℕ) → t.standing ≡ Live → IsStation (live_word t.tag (fate_of t.predicted o)) n → IsStation (station_word_of k (Some (finished t o))) n
finished_word t (Value v) k n live w = still_live t.standing k t.tag (Done v) (Some v) n live w
finished_word t (Next x) k n live w = still_live t.standing k t.tag (fate_of t.predicted (Next x)) t.made n live w
finished_word t (Address a) k n live w = still_live t.standing k t.tag (Addr a) t.made n live w
finished_word t (Stops c) k n live w = still_live t.standing k t.tag (Stopped c) t.made n live w
finished_word t (Pair l h) k n live w = still_live t.standing k t.tag (Done l) (Some l) n live w

-- only its caller finishes it
pub job_stays : (P : Program) (id predicted : ℕ) (outcome : Outcome) (by : ℕ) (s : Step) (t t' : Tenant) → by ≢ id → Goes by s t t' → HasJob P id predicted outcome t → HasJob P id predicted outcome t'
job_stays P id predicted outcome by s t t' other m j = record {
  held = m.held id other j.held;
  ready = ready_stays P by s t t' m j.ready;
  computes = computed_stays P by s t t' m j.ready ∙ j.computes;
  predicted_is = m.predicted ∙ j.predicted_is;
}

module _ (P : Program) (C : Sizes) where
  pub finish_plan : (id : ℕ) (v : View) (s g old new p predicted : ℕ) (outcome : Outcome) → v.role ≡ Worker → IsStation (live_word g (Busy id)) old →
      IsStation (live_word g (fate_of predicted outcome)) new
      → IsTenant (unit_of P C v.seen) p s g (HasJob P id predicted outcome)
      → Plans P C id v (Station s) (λ n. either (n == old) new n) (Finishes P C s g outcome old)
  finish_plan id v s g old new p predicted outcome role old_is new_is job between d legal same apart caller mine draft n small content =
      let h : List Entry = between ++ v.seen in
      let worker : IsUnit id = subst (λ r. IsCaller r id) role caller in
      let now = tenant_stays_apart P C id p s g (HasJob P id predicted outcome) (λ U by step t t' other theirs may m f. job_stays P id predicted outcome by step t t' other m f) between v.seen legal
      same apart job in
      let t : Tenant = now.tenant in
      exchanged n old new (λ z. Plan P C id h d (Station s) z (Finishes P C s g outcome old n))
      (λ hit.
      let word : IsStation (station_word C (recent (unit_of P C h)) s) old = subst (IsStation (station_word C (recent (unit_of P C h)) s)) hit content in
      let state = old_is.state in
      let here = the_tenant P C h legal p s g old t now.is now.new now.station_is now.tag_is word (omega arith) old_is.tag in
      let fits : IsStation (live_word t.tag (fate_of t.predicted outcome)) new = subst (λ (z : ℕ × ℕ). IsStation (live_word z.0 (fate_of z.1 outcome)) new)
      (λ i. (sym now.tag_is i, sym now.fact.predicted_is i)) new_is in
      subst (λ x. Plan P C id h d (Station x) new (Finishes P C s g outcome old n)) now.station_is
      (changes P C id h d legal draft p Finish t tt (inr tt) worker (record { tenant = t; is = now.is; may = record { live = here.0; fate = now.fact.held.fate } }) now.is new
      (subst (λ o. IsStation (station_word_of (suc t.tag) (Some (finished t o))) new) (sym now.fact.computes) (finished_word t outcome (suc t.tag) new here.0 fits))
      (Finishes P C s g outcome old n) (inl (
        hit,
        record {
          p = p;
          tenant = with_fact _ now now.fact.computes;
          added = refl;
        },
      ))))
      (λ miss.
      let gone : t.standing ≡ Squashed = ⊎_elim
      (λ (live : t.standing ≡ Live).
      let l = its_word P C h legal p s n t now.is now.station_is live content in
      absurd (miss (one_live g (Busy id) n old (subst (λ (z : ℕ × Fate). IsStation (live_word z.0 z.1) n) (λ i. (now.tag_is i, now.fact.held.fate i)) l) old_is)))
      (λ e. e) now.fact.held.stays in
      tells P C id h d legal draft (Station s) n (Stale p) (unit_or_back worker, record { tenant = t; is = now.is; fact = gone }) content (Finishes P C s g outcome old n)
      (inr (miss, record { p = p; tenant = with_fact IsSquashed now gone; added = refl })))
    where
      unit_or_back : IsUnit id → IsUnitOrBack id
      unit_or_back w = omega arith
