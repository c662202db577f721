-- The steps of a look and of a claim.
use Rattle.std.proofs.Common.{◌≡◌, ◌≢◌, ℕ, suc, ◌==◌, List, [], ◌++◌, refl, sym, ap, ◌∙◌, subst, inl, inr, arith}
use mathlib.Core.Logic.{dite}
use native.Mathlib.Decide.{ℕ_discrete}
use prog.Atomic.{either}
use Rattle.atomic_table.proofs.Lists.{exchanged}
use Rattle.instructions.specs.Programs.{Program}
use Rattle.inorder.specs.declared.history.Act.TheVariants.{Claim}
use Rattle.inorder.specs.declared.history.Entry.{Entry}
use Rattle.inorder.specs.declared.history.Refusal.TheVariants.{Moved, NotOpen}
use Rattle.inorder.specs.Callers.{IsReady}
use Rattle.inorder.specs.History.{IsLegal, IsUnit, WasOpen, unit_of}
use Rattle.inorder.specs.Replies.{IsOpen}
use Rattle.inorder.specs.StationWords.{live_word, station_word}
use Rattle.inorder.specs.Tenants.{Busy, Fate, Open}
use Rattle.inorder.specs.Unit.{Sizes, recent}
use Rattle.ruu_words.specs.declared.place.Place.TheVariants.{Station}
use Rattle.ruu_words.specs.declared.rule.Role.TheVariants.{Worker}
use Rattle.ruu_words.specs.declared.rule.View.{View}
use Rattle.ruu_words.specs.Content.{IsStation}
use Rattle.ruu_words.specs.Fields.{state_of, tag_of}
use Rattle.ruu_words.specs.Kinds.{Claims, Finds, IsClosed, IsNamed, IsTenant, Peeks, Rechecks, adds_nothing}
use Rattle.ruu_words.specs.Views.{IsCaller}
use Rattle.ruu_words.proofs.Building.{changes, looks, tells}
use Rattle.ruu_words.specs.Plans.{Plan, Plans}
use Rattle.ruu_words.proofs.StationWords.{its_word, live_last, live_state, not_open, one_live, open_state, still_live, the_tenant}
use Rattle.ruu_words.proofs.Stays.{named_of, named_stays, ready_stays, tenant_stays, was_open_stays, with_fact}

module _ (P : Program) (C : Sizes) where
  pub peek_plan : (id : ℕ) (v : View) (s : ℕ) → v.role ≡ Worker → Plans P C id v (Station s) (λ n. n) (Peeks P C s)
  peek_plan id v s role between d legal same apart caller mine draft n small content =
      let h : List Entry = between ++ v.seen in
      let worker : IsUnit id = subst (λ r. IsCaller r id) role caller in
      dite (ℕ_discrete (state_of n) 1)
      (λ is. looks P C id h d legal draft (Station s) n content (Peeks P C s n) (inl (is, open_here h s n content is)))
      (λ not. tells P C id h d legal draft (Station s) n (NotOpen s) (worker, not_open P C h legal s n content not) content (Peeks P C s n) (inr (not, refl)))
    where
      open_here : (h : List Entry) (s n : ℕ) → IsStation (station_word C (recent (unit_of P C h)) s) n → state_of n ≡ 1 → Finds (unit_of P C h) s (tag_of n) [] IsOpen adds_nothing
      open_here h s n word e =
          let l = live_last C (unit_of P C h) s n word (omega arith) in
          record {
            p = l.p;
            tenant = record {
              tenant = l.t;
              is = l.is;
              new = l.new;
              station_is = l.station;
              tag_is = sym (live_state l.t.tag n l.t.fate l.word).0;
              fact = record { live = l.live; fate = open_state l.t.tag n l.t.fate l.word e };
            };
            added = refl;
          }

  -- a tenant of the station, where the word is, or is not, that of an open tenant with its tag
  module _ (h : List Entry) (legal : IsLegal P C h) (p s g old n : ℕ) (old_is : IsStation (live_word g Open) old) (i : IsNamed (unit_of P C h) p s g)
      (content : IsStation (station_word C (recent (unit_of P C h)) s) n) where
    pub opened : n ≡ old → IsOpen i.tenant
    opened hit =
        let state : state_of n ≡ 1 = ap state_of hit ∙ old_is.state in
        let here = the_tenant P C h legal p s g n i.tenant i.is i.new i.station_is i.tag_is content (omega arith) (ap tag_of hit ∙ old_is.tag) in
        record { live = here.0; fate = open_state i.tenant.tag n i.tenant.fate here.1 state }

    pub closed : n ≢ old → IsClosed i.tenant
    closed miss o =
        let l = its_word P C h legal p s n i.tenant i.is i.station_is o.live content in
        miss (one_live g Open n old (subst (λ (z : ℕ × Fate). IsStation (live_word z.0 z.1) n) (λ j. (i.tag_is j, o.fate j)) l) old_is)

  pub recheck_plan : (id : ℕ) (v : View) (s g old p : ℕ) → v.role ≡ Worker → IsStation (live_word g Open) old → IsNamed (unit_of P C v.seen) p s g → WasOpen P C v.seen p
      → Plans P C id v (Station s) (λ n. n) (Rechecks P C s g old)
  recheck_plan id v s g old p role old_is seen before between d legal same apart caller mine draft n small content =
      let h : List Entry = between ++ v.seen in
      let worker : IsUnit id = subst (λ r. IsCaller r id) role caller in
      let now = named_stays P C p s g between v.seen legal same seen in
      dite (ℕ_discrete n old)
      (λ hit.
      let o = opened h legal p s g old n old_is now content hit in
      looks P C id h d legal draft (Station s) n content (Rechecks P C s g old n)
      (inl (hit, record { p = p; tenant = with_fact IsOpen now o; added = refl })))
      (λ miss.
      let c = closed h legal p s g old n old_is now content miss in
      tells P C id h d legal draft (Station s) n (Moved p) (worker, was_open_stays P C between v.seen p before, record { tenant = now.tenant; is = now.is; fact = c }) content (Rechecks P C s g old n)
      (inr (miss, record { p = p; tenant = with_fact IsClosed now c; added = refl })))

  pub claim_plan : (id : ℕ) (v : View) (s g old new p : ℕ) → v.role ≡ Worker → IsStation (live_word g Open) old → IsStation (live_word g (Busy id)) new →
      IsTenant (unit_of P C v.seen) p s g (IsReady P) → WasOpen P C v.seen p
      → Plans P C id v (Station s) (λ n. either (n == old) new n) (Claims P C s g old)
  claim_plan id v s g old new p role old_is new_is ready before between d legal same apart caller mine draft n small content =
      let h : List Entry = between ++ v.seen in
      let worker : IsUnit id = subst (λ r. IsCaller r id) role caller in
      let now = tenant_stays P C p s g (IsReady P) (ready_stays P) between v.seen legal same ready in
      let t = now.tenant in
      let named = named_of now in
      exchanged n old new (λ z. Plan P C id h d (Station s) z (Claims P C s g old n))
      (λ hit.
      let o = opened h legal p s g old n old_is named content hit in
      subst (λ x. Plan P C id h d (Station x) new (Claims P C s g old n)) now.station_is
      (changes P C id h d legal draft p Claim t tt (inr tt) worker (record { tenant = t; is = now.is; may = record { live = o.live; fate = o.fate; needs = now.fact } }) now.is new
      (still_live t.standing (suc t.tag) t.tag (Busy id) t.made new o.live (subst (λ (z : ℕ). IsStation (live_word z (Busy id)) new) (sym now.tag_is) new_is))
      (Claims P C s g old n) (inl (hit, record { p = p; tenant = with_fact IsOpen now o; added = refl }))))
      (λ miss.
      let c = closed h legal p s g old n old_is named content miss in
      tells P C id h d legal draft (Station s) n (Moved p) (worker, was_open_stays P C between v.seen p before, record { tenant = t; is = now.is; fact = c }) content (Claims P C s g old n)
      (inr (miss, record { p = p; tenant = with_fact IsClosed now c; added = refl })))
