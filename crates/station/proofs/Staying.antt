-- What the front and the back may do stays so under the steps of others.
use Rattle.std.proofs.Common.{◌≡◌, ℕ, ◌<◌, true, List, [], ◌++◌, sym, ap, ◌∙◌, subst}
use Rattle.instructions.specs.Programs.{Program}
use Rattle.inorder.specs.declared.history.Act.{Act}
use Rattle.inorder.specs.declared.history.Act.TheVariants.{Claim, Deliver, Finish, Link, Load, Mend, Retire, Speculate, Squash}
use Rattle.inorder.specs.declared.history.Entry.{Entry}
use Rattle.inorder.specs.declared.history.Source.{Source}
use Rattle.inorder.specs.declared.history.Step.{Step}
use Rattle.inorder.specs.declared.history.Step.TheVariants.{Let, On, Renew}
use Rattle.inorder.specs.Callers.{CanAsk, CanSquash}
use Rattle.inorder.specs.History.{IsLegal, back, front, own, unit_of, renewals}
use Rattle.inorder.specs.OneHistory.{Adds}
use Rattle.inorder.specs.Replies.{Has, last_tag}
use Rattle.inorder.specs.Tenants.{on_path}
use Rattle.inorder.specs.Unit.{Sizes}
use Rattle.inorder.proofs.Ends.{squash_stays}
use Rattle.inorder.proofs.Histories.{own_none, none_renewed}
use Rattle.inorder.proofs.Letting.{IsBesides, IsBesidesAct}
use Rattle.inorder.proofs.Moves.{IsNoLink, IsNoLinkAct, goes}
use Rattle.ruu_words.specs.Kinds.{IsTenant}
use Rattle.ruu_words.proofs.Drafting.{still_let}
use Rattle.ruu_words.proofs.Settling.{load_lasts}
use Rattle.ruu_words.proofs.StationWords.{one_at}
use Rattle.ruu_words.proofs.Stays.{front_stays, named_stays, with_fact}
use Rattle.station.specs.declared.answers.Tenant.{Tenant}
use Rattle.station.specs.Asking.{IsAsking, MayAsk}
use Rattle.station.specs.Laws.{BacksStay, FrontsStay}
use Rattle.station.specs.Letting.{MayLetOut, supply_of}
use Rattle.station.specs.Recovery.{SeesMiss, SeesWrongPath}
use Rattle.station.specs.Writeback.{MaySettle}
use Rattle.station.proofs.AskStays.{last_on, path_stays}
use Rattle.station.proofs.Mending.{miss_on}
use Rattle.inorder.proofs.Recent.{old_kept}

no_link_act : (act : Act) → IsBesidesAct act → IsNoLinkAct act
no_link_act (Link k) b = absurd b
no_link_act (Deliver k) b = tt
no_link_act Claim b = tt
no_link_act Finish b = tt
no_link_act Load b = tt
no_link_act (Retire n) b = tt
no_link_act Squash b = tt
no_link_act (Speculate s) b = absurd b
no_link_act Mend b = tt

no_link : (s : Step) → IsBesides s → IsNoLink s
no_link (Let index predicted first second) b = tt
no_link (On p act) b = no_link_act act b
no_link Renew b = absurd b

module _ (P : Program) (C : Sizes) where
  -- a caller that added nothing
  nothing_own : (by : ℕ) (old new : List Entry) (a : Adds P C by old new []) → own by a.begins.more ≡ []
  nothing_own by old new a = own_none by a.begins.more old (sym (ap (own by) a.begins.is) ∙ a.mine)

  lets_stay : (t : Tenant) (more seen : List Entry) → IsLegal P C (more ++ seen) → own front more ≡ [] → MayLetOut P C (unit_of P C seen) t → MayLetOut P C (unit_of P C (more ++ seen)) t
  lets_stay t more seen legal none may =
      let stay = still_let P C t.index t.predicted (supply_of t.sources.0) (supply_of t.sources.1) more seen legal none may.may in
      record { may = stay.may; half = may.half ∙ sym (ap (λ x. x.half) stay.new); tag = subst (λ n. n < last_tag) (sym stay.tag) may.tag }

  asks_stay : (s g : ℕ) (k : Source) (a b : ℕ) (more seen : List Entry) → IsLegal P C (more ++ seen) → own front more ≡ [] → MayAsk P C seen s g k a b → MayAsk P C (more ++ seen) s g k a b
  asks_stay s g k a b more seen legal none may =
      let r = may.r in
      let q = may.q in
      let can : IsTenant (unit_of P C (more ++ seen)) r s g (CanAsk k q) = front_stays P C (λ U. IsTenant U r s g (CanAsk k q))
      (λ U by st besides ok sound i.
      let g = goes P C U by st ok sound r i.tenant i.is in
      record {
        tenant = g.tenant;
        is = g.is;
        new = old_kept P C U by st (λ e. subst IsBesides e besides) ok r ∙ i.new;
        station_is = g.goes.station ∙ i.station_is;
        tag_is = g.goes.tag ∙ i.tag_is;
        fact = record { way = g.goes.way (no_link st besides) k ∙ i.fact.way; creator = g.goes.creator k ∙ i.fact.creator };
      })
      more seen legal none (with_fact (CanAsk k q) may.asks may.asks.fact.can) in
      let path = front_stays P C (λ U. Has U r (λ t. on_path t ≡ true)) (λ U by st besides ok sound i. path_stays P C U by st besides ok r i) more seen legal none
      (record { tenant = may.asks.tenant; is = may.asks.is; fact = may.asks.fact.path }) in
      let same : path.tenant ≡ can.tenant = one_at P C (more ++ seen) legal r path.tenant can.tenant path.is can.is in
      record {
        r = r;
        q = q;
        asks = with_fact (IsAsking k q) can (record { can = can.fact; path = ap on_path (sym same) ∙ path.fact });
        last = last_on P C r s more seen legal none may.last;
        creator = named_stays P C q a b more seen legal (none_renewed P C more seen legal none) may.creator;
        creator_last = last_on P C q a more seen legal none may.creator_last;
      }

  squashes_stay : (more seen : List Entry) → IsLegal P C (more ++ seen) → own front more ≡ [] → SeesWrongPath P C seen → SeesWrongPath P C (more ++ seen)
  squashes_stay more seen legal none may = record {
    p = may.p;
    can = front_stays P C (λ U. CanSquash U may.p) (λ U by s besides ok sound c. squash_stays P C U by s besides ok sound may.p c) more seen legal none may.can;
  }

  misses_stay : (s : ℕ) (more seen : List Entry) → IsLegal P C (more ++ seen) → own front more ≡ [] → SeesMiss P C seen s → SeesMiss P C (more ++ seen) s
  misses_stay s more seen legal none m = record { tag = m.tag; next = m.next; miss = miss_on P C s m.tag m.next more seen legal none m.miss }

  settles_stay : (s g v : ℕ) (more seen : List Entry) → IsLegal P C (more ++ seen) → renewals (more ++ seen) ≡ renewals seen → own back more ≡ [] → MaySettle P C seen s g v →
      MaySettle P C (more ++ seen) s g v
  settles_stay s g v more seen legal same none may = record {
    address = may.address;
    can = record {
      p = may.can.p;
      named = named_stays P C may.can.p s g more seen legal same may.can.named;
      can = load_lasts P C may.can.p may.address v more seen legal same none may.can.can;
    };
  }

pub fronts_stay : FrontsStay
fronts_stay P C old new added =
    let more : List Entry = added.begins.more in
    let is : new ≡ more ++ old = added.begins.is in
    let legal : IsLegal P C (more ++ old) = subst (IsLegal P C) is added.legal in
    let none : own front more ≡ [] = nothing_own P C front old new added in
    record {
      lets = λ t may. subst (λ h. MayLetOut P C (unit_of P C h) t) (sym is) (lets_stay P C t more old legal none may);
      asks = λ s g k a b may. subst (λ h. MayAsk P C h s g k a b) (sym is) (asks_stay P C s g k a b more old legal none may);
      squashes = λ may. subst (λ h. SeesWrongPath P C h) (sym is) (squashes_stay P C more old legal none may);
      mends = λ s m. subst (λ h. SeesMiss P C h s) (sym is) (misses_stay P C s more old legal none m);
    }

pub backs_stay : BacksStay
backs_stay P C old new s g v added may =
    let more : List Entry = added.begins.more in
    let is : new ≡ more ++ old = added.begins.is in
    subst (λ h. MaySettle P C h s g v) (sym is) (settles_stay P C s g v more old (subst (IsLegal P C) is added.legal) (sym (ap renewals is) ∙ added.one_table) (nothing_own P C back old new added) may)
