-- The calls that drive two tenants, one after another, and what was done after each.
use Rattle.std.proofs.Common.{◌≡◌, ℕ, ◌<◌, cond, List, [], ◌∷◌, length, Some, refl, sym, ap, ◌∙◌, subst, false}
use Rattle.std.specs.Prelude.{unwrap_or}
use Rattle.instructions.specs.Operations.{outcome_of}
use Rattle.instructions.specs.Programs.{Program, address, instr_of}
use Rattle.instructions.specs.declared.op.Half.TheVariants.{Low}
use Rattle.instructions.specs.declared.stop.Outcome.{Outcome}
use Rattle.instructions.specs.declared.stop.Outcome.TheVariants.{Value}
use Rattle.inorder.specs.declared.history.Entry.{Entry}
use Rattle.inorder.specs.declared.history.Source.TheVariants.{First, Second}
use Rattle.inorder.specs.History.{entry, front, unit_of}
use Rattle.inorder.specs.OneHistory.{Adds}
use Rattle.inorder.specs.Replies.{JobFields, last_tag}
use Rattle.inorder.specs.Tenants.{Tenant, kind_of, missing_of, needs}
use Rattle.inorder.specs.Unit.{Sizes, UpdateUnit, at, is_old}
use Rattle.ruu_words.specs.Kinds.{IsTenant}
use Rattle.station.specs.declared.answers.Ask.{Ask}
use Rattle.station.specs.declared.answers.Tenant.{Tenant as NewTenant}
use Rattle.station.specs.Asking.{MayAsk}
use Rattle.station.specs.Following.{ComesFrom, LetsAreAsked}
use Rattle.station.specs.Letting.{MayLetOut, let_of}
use Rattle.station.specs.Quiet.{IsClaimable}
use Rattle.station.specs.Seats.{TheCore}
use Rattle.client.specs.declared.seats.Seats.{Seats}
use Rattle.client.specs.Chains.{IsChain, WorksOut, first_result}
use Rattle.client.specs.Done.{GoesOnAlone, HasReady, HaveDone, InAll, IsAskedNext, IsLetNext, CallLeads, MayAskNext, MayLetNext, unit_after}
use Rattle.client.proofs.FirstWorks.{either, made}
use Rattle.client.proofs.SetUp.{IsSetUp, first_of_two, second_of_two}
use Rattle.client.proofs.Known.{exactly}
use Rattle.client.proofs.LinkedTenants.{a_done, asked, b_linked, b_ready, two, value_is}
use Rattle.client.proofs.TwoTenants.{a_of, first_station, low_half, may_let_second, next_half, reads_it, second_station, small_tag}
use Rattle.client.proofs.Begins.{needs_first}

-- a let, to the letter
let_is : (core : TheCore) (u : Seats) (t : NewTenant) (tag : ℕ) (old : List Entry) (g : GoesOnAlone core u front old (IsLetNext core t tag)) → g.all ≡ entry front (let_of t) ∷ old
let_is core u t tag old g = exactly front old g.all (let_of t ∷ []) g.reply.adds.begins g.alone g.reply.adds.mine

-- The core is set up for both tenants, and the first is let; nothing else was done
pub record HasLetFirst (core : TheCore) (predicted : ℕ) (s : Seats) (tag : ℕ) : Type 0 where
  pub set : IsSetUp core predicted
  pub lets : GoesOnAlone core s front [] (IsLetNext core first_of_two tag)

module _ {core : TheCore} {predicted : ℕ} {t1 : Seats} {tag : ℕ} (one : HasLetFirst core predicted t1 tag) where
  abbrev set : IsSetUp core predicted
  set = one.set

  abbrev lets : GoesOnAlone core t1 front [] (IsLetNext core first_of_two tag)
  lets = one.lets

  abbrev chain : IsChain core.program
  chain = set.chain

  abbrev ring : 1 < core.sizes.ring
  ring = set.ring

  abbrev queue : 0 < core.sizes.queue
  queue = set.queue

  abbrev tags : core.sizes.first_tag < last_tag
  tags = set.tags

  abbrev P : Program
  P = core.program

  abbrev C : Sizes
  C = core.sizes

  abbrev a : Tenant
  a = a_of P C

  abbrev b : Tenant
  b = b_linked P C predicted

  abbrev h1 : List Entry
  h1 = entry front (let_of first_of_two) ∷ []

  abbrev second : NewTenant
  second = second_of_two predicted tag

  one_is : lets.all ≡ h1
  one_is = let_is core t1 first_of_two tag [] lets

  done1 : HaveDone core t1 h1
  done1 = subst (HaveDone core t1) one_is lets.done

  may_let : MayLetOut P C (unit_of P C h1) second
  may_let = record { may = may_let_second P C chain ring queue tags predicted set.word set.predicts; half = low_half P C chain ring queue tags; tag = small_tag P C chain ring queue tags }

  pub may_let_now : InAll core t1 (MayLetNext core second)
  may_let_now = record { all = h1; done = done1; fact = may_let }

  module _ {t2 : Seats} {second_tag : ℕ} (lets2 : CallLeads core t1 t2 front (IsLetNext core second second_tag)) where
    abbrev h2 : List Entry
    h2 = entry front (let_of second) ∷ h1

    two_is : (lets2 h1 done1).all ≡ h2
    two_is = let_is core t2 second second_tag h1 (lets2 h1 done1)

    done2 : HaveDone core t2 h2
    done2 = subst (HaveDone core t2) two_is (lets2 h1 done1).done

    pub may_ask_now : LetsAreAsked → InAll core t2 (MayAskNext core 1 second_tag First (0, tag))
    may_ask_now law =
        let g = lets2 h1 done1 in
        let comes : ComesFrom P C h1 second First 0 tag = record {
          q = 0;
          given = refl;
          creates = reads_it P C chain ring queue tags;
          named = record { tenant = a; is = refl; new = refl; station_is = first_station P C chain ring queue tags; tag_is = sym lets.reply.tag_is; fact = tt };
        } in
        let adds = subst (λ h. Adds P C front h1 h (let_of second ∷ [])) two_is g.reply.adds in
        let asks = law P C h1 h2 second First 0 tag may_let comes adds in
        let there = second_station P C chain ring queue tags in
        record { all = h2; done = done2; fact = subst (λ (z : ℕ × ℕ). MayAsk P C h2 z.0 z.1 First 0 tag) (λ i. (there i, sym g.reply.tag_is i)) asks }

    module _ {t3 : Seats} {answer : Ask} (asks : CallLeads core t2 t3 front (IsAskedNext core 1 second_tag First (0, tag) answer)) where
      abbrev g3 : GoesOnAlone core t3 front h2 (IsAskedNext core 1 second_tag First (0, tag) answer)
      g3 = asks h2 done2

      unit3 : unit_of P C g3.all ≡ two b a
      unit3 =
          let x = g3.reply in
          asked P C predicted chain ring queue tags h2 g3.all x.r x.events refl x.question (exactly front h2 g3.all x.events x.adds.begins g3.alone x.adds.mine) x.adds.legal

      abbrev ready3 : IsTenant (unit_after core g3.all) 0 0 a.tag (IsClaimable P)
      ready3 = record {
        tenant = a;
        is = subst (λ (U : UpdateUnit). at U.tenants 0 ≡ Some a) (sym unit3) refl;
        new = subst (λ (U : UpdateUnit). is_old U 0 ≡ false) (sym unit3) refl;
        station_is = first_station P C chain ring queue tags;
        tag_is = refl;
        fact = record { is_open = record { live = refl; fate = refl }; ready = refl };
      }

      pub ready_now : InAll core t3 (HasReady core 0)
      ready_now = record { all = g3.all; done = g3.done; fact = record { p = 0; tag = a.tag; tenant = ready3 } }

      module _ {t4 : Seats} {outcome : Outcome} (works : CallLeads core t3 t4 t3.one.by (WorksOut core t3.one.by 0 outcome)) {v : ℕ} (makes : first_result P ≡ Value v) where
        abbrev g4 : GoesOnAlone core t4 t3.one.by g3.all (WorksOut core t3.one.by 0 outcome)
        g4 = works g3.all g3.done

        abbrev c : Tenant
        c = b_ready P C predicted v

        unit4 : unit_of P C g4.all ≡ two c (a_done P C predicted v)
        unit4 = made core predicted set v makes t3.one.by outcome g3.all g4.all unit3 g4.alone (g4.reply 0 a.tag ready3)

        value4 : c.first.value ≡ Some v
        value4 = value_is P C predicted chain ring queue tags v

        abbrev ready4 : IsTenant (unit_after core g4.all) 1 1 c.tag (IsClaimable P)
        ready4 = record {
          tenant = c;
          is = subst (λ (U : UpdateUnit). at U.tenants 1 ≡ Some c) (sym unit4) refl;
          new = subst (λ (U : UpdateUnit). is_old U 1 ≡ false) (sym unit4) refl;
          station_is = second_station P C chain ring queue tags;
          tag_is = refl;
          fact = record { is_open = record { live = refl; fate = refl }; ready = ap (λ o. missing_of (kind_of P c) o (Some 0)) value4 };
        }

        pub ready_behind : InAll core t4 (HasReady core 1)
        ready_behind = record { all = g4.all; done = g4.done; fact = record { p = 1; tag = c.tag; tenant = ready4 } }

        pub comes_to : {t5 : Seats} {found : Outcome} → CallLeads core t4 t5 t4.one.by (WorksOut core t4.one.by 1 found) → found ≡ outcome_of (instr_of P 1) Low (address 1) v 0 (length P.bytes)
        comes_to {t5} {found} works5 =
            let w = (works5 g4.all g4.done).reply 1 c.tag ready4 in
            let f = w.fields_are in
            let half : w.job.half ≡ Low = ap (λ (z : JobFields). z.half) f ∙ next_half P C chain ring queue tags in
            let first : w.job.first ≡ v = ap (λ (z : JobFields). z.first) f ∙ (ap (λ x. cond x (unwrap_or c.first.value 0) 0) (needs_first (kind_of P c)) ∙ ap (λ o. unwrap_or o 0) value4) in
            let second : w.job.second ≡ 0 = ap (λ (z : JobFields). z.second) f ∙ either (needs (kind_of P c) Second) 0 in
            w.outcome_is ∙ (λ i. outcome_of (instr_of P (f i).index) (half i) (f i).pc (first i) (second i) (length P.bytes))
