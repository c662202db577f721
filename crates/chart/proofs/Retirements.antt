-- How many tenants have retired, step by step and turn by turn.
use Rattle.std.proofs.Common.{◌≡◌, ◌<◌, ◌≤◌, ℕ, suc, ◌^◌, Bool, true, false, cond, List, [], ◌∷◌, ◌++◌, length, Option, Some, None, refl, sym, ap, ◌∙◌, arith}
use Rattle.std.proofs.lemmas.Bool.{le-ltb, lt-ltb}
use Rattle.std.specs.List.{AllByRecursion}
use Rattle.std.specs.Prelude.{nat_lt, slice_get}
use Rattle.instructions.specs.Programs.{Program}
use Rattle.inorder.specs.declared.history.Act.{Act}
use Rattle.inorder.specs.declared.history.Act.TheVariants.{Claim, Deliver, Finish, Link, Load, Mend, Retire, Speculate, Squash}
use Rattle.inorder.specs.declared.history.Source.TheVariants.{First, Second}
use Rattle.inorder.specs.declared.history.Step.{Step}
use Rattle.inorder.specs.declared.history.Step.TheVariants.{Let as LetStep, On, Renew}
use Rattle.inorder.specs.Callers.{is_retired, stands_retired}
use Rattle.inorder.specs.Laws.{IsNoRetire}
use Rattle.inorder.specs.Legal.{May, applied, changed}
use Rattle.inorder.specs.Moves.{IsDeliver, IsLink, IsSquash, Leads, MayRun, MayTake, run_on}
use Rattle.inorder.specs.Tenants.{Tenant, computed}
use Rattle.inorder.specs.Unit.{Sizes, UpdateUnit, how_many, older, younger}
use Rattle.inorder.proofs.Basics.{split_at}
use Rattle.inorder.proofs.Kept.{parts}
use Rattle.inorder.proofs.Letting.{how_many_same}
use Rattle.inorder.proofs.OneCaller.Sequences.{all_more, all_weaker, deliver_quiet, link_quiet, squash_quiet}
use Rattle.inorder.proofs.Stations.{finished_station, mended_station}
use Rattle.one_thread.specs.declared.bench.Turn.{Turn}
use Rattle.one_thread.specs.declared.bench.Turn.TheVariants.{Halved, Let, Loaded, Over, Ran, Recovered, Retired}
use Rattle.one_thread.specs.declared.station.Station.{Station}
use Rattle.one_thread.specs.Turns.{Before, Does, Now, Nowhere, Retires}
use Rattle.one_thread.specs.Window.{window}
use Rattle.chart.specs.Events.{begun, entered, next_kept}
use Rattle.chart.specs.Rows.{SoFar}
use Rattle.chart.specs.declared.lines.Style.{Style}
use Rattle.chart.specs.Traced.{AreTurns, Passed, unit_behind, kept_behind}
use Rattle.counted_io.specs.Counted.{counted, raised}
use Rattle.chart.proofs.RowsNamed.{Named, named, positions_length, row_count}
use Rattle.chart.proofs.TurnPositions.{grows, retires}
use Rattle.inorder.specs.declared.history.Speculation.TheVariants.{Confirm, Flush, Guess}

-- Steps

act_counts : (P : Program) (by : ℕ) (act : Act) (ys : List Tenant) (t : Tenant) (ts : List Tenant) → May P by act ys t ts → (p : ℕ) →
    IsNoRetire (On p act) → is_retired (changed P by act t ts) ≡ is_retired t
act_counts P by (Link First) ys t ts m p q = refl
act_counts P by (Link Second) ys t ts m p q = refl
act_counts P by (Deliver First) ys t ts m p q = refl
act_counts P by (Deliver Second) ys t ts m p q = refl
act_counts P by Claim ys t ts m p q = refl
act_counts P by Finish ys t ts m p q = ap stands_retired (finished_station t (computed P t)).1
act_counts P by Load ys t ts m p q = refl
act_counts P by (Retire n) ys t ts m p q = absurd q
act_counts P by Squash ys t ts m p q = sym (ap stands_retired m.live)
act_counts P by (Speculate (Guess v)) ys t ts m p q = refl
act_counts P by (Speculate Confirm) ys t ts m p q = refl
act_counts P by (Speculate Flush) ys t ts m p q = sym (ap stands_retired m.live)
act_counts P by Mend ys t ts m p q = ap stands_retired (mended_station t t.fate).1

-- one more has retired
among : (t u : Tenant) (ts ys : List Tenant) → is_retired t ≡ false → is_retired u ≡ true → how_many is_retired (ys ++ u ∷ ts) ≡ suc (how_many is_retired (ys ++ t ∷ ts))
among t u ts [] e f =
    let n = how_many is_retired ts in ap (λ b. cond b (suc n) n) f ∙ ap suc (sym (ap (λ b. cond b (suc n) n) e))
among t u ts (y ∷ ys) e f = go (is_retired y) (among t u ts ys e f)
  where
    go : (b : Bool) → how_many is_retired (ys ++ u ∷ ts) ≡ suc (how_many is_retired (ys ++ t ∷ ts)) →
        cond b (suc (how_many is_retired (ys ++ u ∷ ts))) (how_many is_retired (ys ++ u ∷ ts)) ≡
        suc (cond b (suc (how_many is_retired (ys ++ t ∷ ts))) (how_many is_retired (ys ++ t ∷ ts)))
    go true more = ap suc more
    go false more = more

at_most : (ts : List Tenant) → how_many is_retired ts ≤ length ts
at_most [] = omega arith
at_most (t ∷ ts) = go (is_retired t) (at_most ts)
  where
    go : (b : Bool) → how_many is_retired ts ≤ length ts → cond b (suc (how_many is_retired ts)) (how_many is_retired ts) ≤ suc (length ts)
    go true h = omega (arith, h)
    go false h = omega (arith, h)

module _ (P : Program) (C : Sizes) (by : ℕ) (U : UpdateUnit) where
  once : (W : UpdateUnit) (s : Step) → IsNoRetire s → MayTake P C W by s → how_many is_retired (applied P C W by s).tenants ≡ how_many is_retired W.tenants
  once W (LetStep index predicted first second) q m = refl
  once W (On p act) q m =
      let ts = older W.tenants p in
      let ys = younger W.tenants p in
      ap (how_many is_retired) (parts P W.tenants by p act m.tenant m.is)
      ∙ how_many_same is_retired m.tenant (changed P by act m.tenant ts) ts ys (act_counts P by act ys m.tenant ts m.may p q)
      ∙ ap (how_many is_retired) (sym (split_at W.tenants p m.tenant m.is))
  once W Renew q m = absurd m

  several : (ss : List Step) → AllByRecursion IsNoRetire ss → MayRun P C by U ss → how_many is_retired (run_on P C by U ss).tenants ≡ how_many is_retired U.tenants
  several [] q m = refl
  several (s ∷ ss) q m = once (run_on P C by U ss) s q.0 m.1 ∙ several ss q.1 m.0

  retired_once : (p n : ℕ) → MayTake P C U by (On p (Retire n)) → how_many is_retired (applied P C U by (On p (Retire n))).tenants ≡ suc (how_many is_retired U.tenants)
  retired_once p n m =
      let ts = older U.tenants p in
      let ys = younger U.tenants p in
      ap (how_many is_retired) (parts P U.tenants by p (Retire n) m.tenant m.is)
      ∙ among m.tenant (changed P by (Retire n) m.tenant ts) ts ys (ap stands_retired m.may.live) refl
      ∙ ap (λ l. suc (how_many is_retired l)) (sym (split_at U.tenants p m.tenant m.is))

-- Turns

module _ (P : Program) (C : Sizes) (U V : UpdateUnit) where
  none_more : (ss : List Step) → AllByRecursion IsNoRetire ss → Leads P C 0 U ss V → how_many is_retired V.tenants ≡ how_many is_retired U.tenants
  none_more ss q l = ap (λ W. how_many is_retired W.tenants) (sym l.is) ∙ several P C 0 U ss q l.may

  one_more : Retires P C U V → how_many is_retired V.tenants ≡ suc (how_many is_retired U.tenants)
  one_more r = ap (λ W. how_many is_retired W.tenants) (sym r.leads.is) ∙ retired_once P C 0 U (length r.ts) 0 r.leads.may.1

  module _ (k : SoFar) (n : Named P U.tenants k) (e : k.retirements ≡ how_many is_retired U.tenants) (small : length V.tenants < 2 ^ 64) where
    -- a turn that can retire somebody, and does
    counts_one : Retires P C U V → counted (nat_lt (length (window P V.tenants)) (length k.rows)) k.retirements ≡ how_many is_retired V.tenants
    counts_one r =
        let o = retires P C U V r in
        let less : length (window P V.tenants) < length k.rows = omega (arith, row_count P C U V k n, ap (λ l. length l) o.positions, positions_length P V.tenants) in
        let next : raised (how_many is_retired U.tenants) ≡ how_many is_retired V.tenants = omega (arith, one_more r, at_most V.tenants, small) in
        ap (λ b. counted b k.retirements) (lt-ltb (length (window P V.tenants)) (length k.rows) less) ∙ ap raised e ∙ next

    -- and that does not
    counts_none : V ≡ U → counted (nat_lt (length (window P V.tenants)) (length k.rows)) k.retirements ≡ how_many is_retired V.tenants
    counts_none same =
        let as_many = ap (λ X. length (window P X.tenants)) same in
        let all : length k.rows ≤ length (window P V.tenants) = omega (arith, row_count P C U V k n, as_many, positions_length P U.tenants) in
        ap (λ b. counted b k.retirements) (le-ltb (length (window P V.tenants)) (length k.rows) all) ∙ e ∙ ap (λ X. how_many is_retired X.tenants) (sym same)

    -- nobody retires who enters
    entering : (o : Option Station) → (entered (begun k) o).retirements ≡ k.retirements
    entering None = refl
    entering (Some w) = refl

    counts : (answer : Turn) → Does P C U V answer → (next_kept k answer (window P V.tenants)).retirements ≡ how_many is_retired V.tenants
    counts (Recovered age) d = e ∙ sym (none_more (On (length d.ts) Mend ∷ d.squashes) (tt, all_weaker IsSquash IsNoRetire squash_quiet d.squashes d.are) d.leads)
    counts Let d =
        let steps : List Step = LetStep d.index d.predicted d.first d.second ∷ [] in
        entering (slice_get (window P V.tenants) (length k.rows)) ∙ e ∙ sym (none_more (d.links ++ steps) (all_more IsNoRetire d.links steps (all_weaker IsLink IsNoRetire link_quiet d.links d.are) (tt, tt)) d.leads)
    counts (Ran age) d =
        let steps : List Step = On (length d.ts) Finish ∷ On (length d.ts) Claim ∷ [] in
        e ∙ sym (none_more (d.delivers ++ steps) (all_more IsNoRetire d.delivers steps (all_weaker IsDeliver IsNoRetire deliver_quiet d.delivers d.are) (tt, (tt, tt))) d.leads)
    counts (Loaded age) d =
        let steps : List Step = On (length d.ts) Load ∷ [] in
        e ∙ sym (none_more (d.delivers ++ steps) (all_more IsNoRetire d.delivers steps (all_weaker IsDeliver IsNoRetire deliver_quiet d.delivers d.are) (tt, tt)) d.leads)
    counts Halved d = counts_one d.retires
    counts Retired d = counts_one d
    counts (Over c) (Before stopped same) = counts_none same
    counts (Over c) (Now r stopped) = counts_one r
    counts (Over c) (Nowhere bad nowhere same) = counts_none same

pub retirements_are : (f : Style) (P : Program) (C : Sizes) (turns : List Passed) → AreTurns P C turns → length (unit_behind turns).tenants < 2 ^ 64 →
    (kept_behind f P turns).retirements ≡ how_many is_retired (unit_behind turns).tenants
retirements_are f P C [] a small = refl
retirements_are f P C (t ∷ ts) a small =
    let U = unit_behind ts in
    let more = grows P C U t.unit t.answer a.1 in
    let before : length U.tenants < 2 ^ 64 = omega (arith, more, small) in
    counts P C U t.unit (kept_behind f P ts) (named f P C ts a.0 before) (retirements_are f P C ts a.0 before) small t.answer a.1
