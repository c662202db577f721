-- A tenant is let, and linked to what its sources wait for.
use Rattle.std.proofs.Common.{◌≡◌, ℕ, ◌<◌, ◌^◌, true, ◌&&◌, List, [], ◌∷◌, ◌++◌, length, Option, Some, None, refl, sym}
use Rattle.std.specs.Prelude.{IfSome}
use Rattle.std.specs.List.{AllByRecursion}
use Rattle.instructions.specs.Instruction.{first_of, fixed_next, is_access, kind, second_of}
use Rattle.instructions.specs.Programs.{Program, address, instr_of}
use Rattle.inorder.specs.declared.history.Act.TheVariants.{Link}
use Rattle.inorder.specs.declared.history.Source.TheVariants.{First, Second}
use Rattle.inorder.specs.declared.history.Step.{Step}
use Rattle.inorder.specs.declared.history.Step.TheVariants.{Let, On}
use Rattle.inorder.specs.declared.history.Supply.{Supply}
use Rattle.inorder.specs.declared.history.Supply.TheVariants.{From, Known}
use Rattle.inorder.specs.Steps.{IsNoRetiredStop, MaySupply, MayLet, let_operand, linked, new_tenant}
use Rattle.inorder.specs.Tenants.{Tenant, is_live, kind_of}
use Rattle.inorder.specs.Unit.{front_half, Sizes, UpdateUnit, creator, front_pc, how_many, next_station, recent, value_of}
use Rattle.inorder.proofs.Sound.{IsSound}
use Rattle.inorder.proofs.Stations.{Stands}
use Rattle.inorder.specs.Moves.{IsLink, Leads, with_let}
use Rattle.inorder.specs.Quiescent.{SourceIsQuiescent}
use Rattle.inorder.proofs.OneCaller.Alike.{IsAlike}
use Rattle.inorder.proofs.OneCaller.Creators.{pending_may}
use Rattle.inorder.proofs.OneCaller.Middle.{allowed_middle, changed_middle}
use Rattle.inorder.proofs.OneCaller.Sequences.{leads_more, leads_once}

-- what a let needs, but for its sources
pub record MayEnter (P : Program) (C : Sizes) (U : UpdateUnit) (index predicted : ℕ) : Type 0 where
  pub room : how_many is_live U.tenants < C.ring
  pub queue : is_access (kind (instr_of P index).op) ≡ true → how_many (λ t. is_live t && is_access (kind_of P t)) U.tenants < C.queue
  pub is_there : index < length P.code
  pub pc : front_pc U.tenants ≡ address index
  pub small : predicted < 2 ^ 32
  pub predicts : IfSome (fixed_next (instr_of P index) (front_half P U.tenants) (front_pc U.tenants)) (λ x. predicted ≡ x)

-- the let and its links, and the tenant
pub record LetRun (P : Program) (C : Sizes) (by : ℕ) (U : UpdateUnit) (index predicted : ℕ) : Type 0 where
  pub first : Supply
  pub second : Supply
  pub links : List Step
  pub are : AllByRecursion IsLink links
  pub tenant : Tenant
  pub leads : Leads P C by U (links ++ Let index predicted first second ∷ []) (with_let U tenant)
  pub alike : IsAlike (new_tenant P C U index predicted first second) tenant
  pub first_still : SourceIsQuiescent U.tenants tenant.first
  pub second_still : SourceIsQuiescent U.tenants tenant.second

still_known : (U : List Tenant) (c : Option ℕ) (v : ℕ) → value_of U c ≡ Some v → SourceIsQuiescent U (let_operand c (Known v))
still_known U c v e = record { value = sym e; way = λ n. let no : Some v ≡ None = n in absurd (cc) }

pub let_run : (P : Program) (C : Sizes) (by : ℕ) (U : UpdateUnit) (index predicted : ℕ) →
    IsSound P U.tenants → Stands C U.tenants → U.fresh ≡ length U.tenants →
    AllByRecursion IsNoRetiredStop U.tenants → MayEnter P C U index predicted →
    LetRun P C by U index predicted
let_run P C by U k pr s st never ns m = go (value_of ts c) (value_of ts d) refl refl
  where
    ts : List Tenant
    ts = U.tenants

    c : Option ℕ
    c = creator P ts (first_of (instr_of P k))

    d : Option ℕ
    d = creator P ts (second_of (instr_of P k))

    new : Supply → Supply → Tenant
    new f g = new_tenant P C U k pr f g

    may : (f g : Supply) → MaySupply P U (next_station C (recent U)) c f → MaySupply P U (next_station C (recent U)) d g → MayLet P C U k pr f g
    may f g hf hg =
        record {
          room = m.room;
          queue = m.queue;
          is_there = m.is_there;
          pc = m.pc;
          small = m.small;
          predicts = m.predicts;
          first_is = hf;
          second_is = hg;
        }

    pending : (r : ℕ) → value_of ts (creator P ts r) ≡ None → MaySupply P U (next_station C (recent U)) (creator P ts r) From
    pending r = pending_may P C U (new From From) r s st never ns m.room refl

    let_only : (f g : Supply) → MayLet P C U k pr f g → Leads P C by U (Let k pr f g ∷ []) (with_let U (new f g))
    let_only f g a = leads_once P C by U (with_let U (new f g)) (Let k pr f g) a refl

    link_first : (t : Tenant) → t.first.way ≡ Rattle.inorder.specs.Tenants.Unlinked → Leads P C by (with_let U t) (On (length ts) (Link First) ∷ []) (with_let U (linked ts t First))
    link_first t w = leads_once P C by (with_let U t) (with_let U (linked ts t First)) (On (length ts) (Link First)) (allowed_middle P C by (with_let U t) (Link First) [] t ts (record { way = w }))
        (changed_middle P C by (with_let U t) (Link First) [] t ts)

    link_second : (t : Tenant) → t.second.way ≡ Rattle.inorder.specs.Tenants.Unlinked → Leads P C by (with_let U t) (On (length ts) (Link Second) ∷ []) (with_let U (linked ts t Second))
    link_second t w = leads_once P C by (with_let U t) (with_let U (linked ts t Second)) (On (length ts) (Link Second))
        (allowed_middle P C by (with_let U t) (Link Second) [] t ts (record { way = w })) (changed_middle P C by (with_let U t) (Link Second) [] t ts)

    go : (x y : Option ℕ) → value_of ts c ≡ x → value_of ts d ≡ y → LetRun P C by U k pr
    go (Some x) (Some y) ex ey =
        record {
          first = Known x;
          second = Known y;
          links = [];
          are = tt;
          tenant = new (Known x) (Known y);
          leads = let_only (Known x) (Known y) (may (Known x) (Known y) ex ey);
          alike = record { station = refl; index = refl; half = refl; pc = refl; predicted = refl; next = refl; made = refl; fate = refl; standing = refl };
          first_still = still_known ts c x ex;
          second_still = still_known ts d y ey;
        }
    go None (Some y) ex ey =
        let t0 = new From (Known y) in
        record {
          first = From;
          second = Known y;
          links = On (length ts) (Link First) ∷ [];
          are = (tt, tt);
          tenant = linked ts t0 First;
          leads = leads_more P C by U (with_let U t0) (with_let U (linked ts t0 First))
              (On (length ts) (Link First) ∷ []) (Let k pr From (Known y) ∷ [])
              (let_only From (Known y) (may From (Known y) (pending (first_of (instr_of P k)) ex) ey)) (link_first t0 refl);
          alike = record { station = refl; index = refl; half = refl; pc = refl; predicted = refl; next = refl; made = refl; fate = refl; standing = refl };
          first_still = record { value = sym ex; way = λ q. (_, refl) };
          second_still = still_known ts d y ey;
        }
    go (Some x) None ex ey =
        let t0 = new (Known x) From in
        record {
          first = Known x;
          second = From;
          links = On (length ts) (Link Second) ∷ [];
          are = (tt, tt);
          tenant = linked ts t0 Second;
          leads = leads_more P C by U (with_let U t0) (with_let U (linked ts t0 Second))
              (On (length ts) (Link Second) ∷ []) (Let k pr (Known x) From ∷ [])
              (let_only (Known x) From (may (Known x) From ex (pending (second_of (instr_of P k)) ey))) (link_second t0 refl);
          alike = record { station = refl; index = refl; half = refl; pc = refl; predicted = refl; next = refl; made = refl; fate = refl; standing = refl };
          first_still = still_known ts c x ex;
          second_still = record { value = sym ey; way = λ q. (_, refl) };
        }
    go None None ex ey =
        let t0 = new From From in
        let t1 = linked ts t0 First in
        let t2 = linked ts t1 Second in
        record {
          first = From;
          second = From;
          links = On (length ts) (Link Second) ∷ On (length ts) (Link First) ∷ [];
          are = (tt, (tt, tt));
          tenant = t2;
          leads = leads_more P C by U (with_let U t1) (with_let U t2)
              (On (length ts) (Link Second) ∷ []) (On (length ts) (Link First) ∷ Let k pr From From ∷ [])
              (leads_more P C by U (with_let U t0) (with_let U t1) (On (length ts) (Link First) ∷ []) (Let k pr From From ∷ [])
              (let_only From From (may From From (pending (first_of (instr_of P k)) ex) (pending (second_of (instr_of P k)) ey))) (link_first t0 refl)) (link_second t1 refl);
          alike = record { station = refl; index = refl; half = refl; pc = refl; predicted = refl; next = refl; made = refl; fate = refl; standing = refl };
          first_still = record { value = sym ex; way = λ q. (_, refl) };
          second_still = record { value = sym ey; way = λ q. (_, refl) };
        }
