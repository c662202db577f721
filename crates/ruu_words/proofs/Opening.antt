-- The words at the start, and after a renewal, and the rule then. A table opens with no history, or with that of
-- a seat of another table and a renewal.
use Rattle.std.proofs.Common.{◌≡◌, ℕ, zero, suc, ◌+◌, List, [], ◌∷◌, slice_index, Some, refl, sym, ap, ◌∙◌, subst, inl, arith}
use mathlib.Core.Option.{some, some-injective, some-ne-none}
use lib.ListN.{get_elem?}
use Rattle.atomic_table.specs.Table.{opening}
use Rattle.instructions.specs.Programs.{Program}
use Rattle.inorder.proofs.Positions.{all_at}
use Rattle.inorder.specs.declared.history.Source.{Source}
use Rattle.inorder.specs.StationWords.{IsFree}
use Rattle.inorder.specs.Tenants.{IsNotLive, Tenant}
use Rattle.inorder.specs.Steps.{MayRenew}
use Rattle.inorder.specs.Unit.{Sizes, UpdateUnit}
use Rattle.inorder.specs.declared.history.Entry.{Entry}
use Rattle.inorder.specs.History.{IsLegal, front, unit_of}
use Rattle.instructions.proofs.Histories.{starts_same}
use Rattle.ruu_words.specs.declared.place.Place.{Place}
use Rattle.ruu_words.specs.declared.place.Place.TheVariants.{Info, Link, Operand, Station}
use Rattle.ruu_words.specs.declared.rule.Draft.TheVariants.{Nothing}
use Rattle.ruu_words.specs.declared.rule.Role.TheVariants.{Start}
use Rattle.ruu_words.specs.declared.rule.Setup.{Setup}
use Rattle.ruu_words.specs.declared.rule.View.{View}
use Rattle.ruu_words.specs.Content.{Content, IsLinkWord, IsStation}
use Rattle.ruu_words.specs.Fields.{pack}
use Rattle.ruu_words.specs.Places.{IsPlace, index}
use Rattle.ruu_words.specs.Openings.{IsOpening, opening_of, renewed, renewed_of, sizes_of}
use Rattle.ruu_words.specs.Views.{ViewFits, first_view, view}
use Rattle.ruu_words.specs.Rule.{IsStart, Keeps, Kept}
use Rattle.ruu_words.specs.Laws.{TablesGoOn}
use Rattle.ruu_words.proofs.ViewCuts.{starts_empty}
use Rattle.std.specs.List.{AllByRecursion}

free_word : (g n : ℕ) → n ≡ pack g 0 0 → IsStation (record { tag = g + 0; state = IsFree; value = Some 0 }) n
free_word g n e = record { tag = omega arith; state = omega arith; value = omega arith }

-- a unit where nobody was let since the last renewal
abbrev begun : List Tenant → UpdateUnit
begun ts = record { tenants = ts; fresh = 0 }

no_link : (ts : List Tenant) → AllByRecursion IsNotLive ts → (p c : ℕ) (k : Source) (n : ℕ) → n ≡ 0 → IsLinkWord (begun ts) p c k n
no_link ts none p c k n e = record { names = inl e; stands = λ q r producer consumer i live f g. absurd (all_at IsNotLive ts none r consumer i.consumer_is live) }

-- the first seat, whose numbers are all that there are
abbrev first_seat : List Entry → View
first_seat h = view Start front (record { first = 1; every = 1 }) h Nothing

first_only : (h : List Entry) (id : ℕ) (v : View) → get_elem? (first_seat h ∷ []) id ≡ some v → (id ≡ 0) × (first_seat h ≡ v)
first_only h zero v e = (refl, some-injective (first_seat h) v e)
first_only h (suc id) v e = absurd (some-ne-none v (sym e))

pub content : (P : Program) (C : Sizes) (ts : List Tenant) → AllByRecursion IsNotLive ts → (ws : List ℕ) →
    IsStart C ws → (x : Place) → IsPlace C.ring x →
    Content P C (begun ts) Nothing x (slice_index ws (index C.ring x))
content P C ts none ws start (Station s) h = free_word C.first_tag (slice_index ws s) (start.stations s h)
content P C ts none ws start (Info s) h = start.others (C.ring + s) (omega arith)
content P C ts none ws start (Operand s k) h = start.others (index C.ring (Operand s k)) (omega arith)
content P C ts none ws start (Link p c k) h = no_link ts none p c k (slice_index ws (index C.ring (Link p c k))) (start.others (index C.ring (Link p c k)) (omega arith))

-- of a history that a table may open with
opened : (P : Program) (C : Sizes) (h : List Entry) → IsOpening P C h → (ws : List ℕ) → IsStart C ws →
    (x : Place) → IsPlace C.ring x → Content P C (unit_of P C h) Nothing x (slice_index ws (index C.ring x))
opened P C h may ws start x place =
    let same : begun (unit_of P C h).tenants ≡ unit_of P C h = λ i. record { tenants = (unit_of P C h).tenants; fresh = sym may.begun i } in
    subst (λ U. Content P C U Nothing x (slice_index ws (index C.ring x))) same (content P C (unit_of P C h).tenants may.may.none ws start x place)

pub opens : (P : Program) (C : Sizes) (h : List Entry) → IsOpening P C h → (ws : List ℕ) → IsStart C ws → Keeps P C h (opening ws [] (first_seat h))
opens P C h may ws start = record {
  history = h;
  draft = Nothing;
  kept = record {
    legal = may.legal;
    one_table = refl;
    wide = start.wide;
    words = opened P C h may ws start;
    views = λ id v e. let f = first_only h id v e in
        subst (ViewFits h h) f.1 (record {
          begins = starts_same h;
          told = starts_empty h;
          opened = λ _. starts_same h;
          all_own = λ _. refl;
          unborn = λ _ n i. refl;
          caller = refl;
          above = λ _. omega arith;
        });
    apart = λ i j n u v e e' ne. absurd (ne ((first_only h i u e).0 ∙ sym (first_only h j v e').0));
    draft = λ id v e a is. ap (λ (z : View). z.draft) (sym (first_only h id v e).1);
    proper = tt;
  };
}

-- for a setup
pub opens_first : (c : Setup) (ws : List ℕ) → IsOpening c.program (sizes_of c) (opening_of c) → IsStart (sizes_of c) ws → Kept c (opening ws [] (first_view c))
opens_first c ws may start = opens c.program (sizes_of c) (opening_of c) may ws start

pub goes_on_with : (P : Program) (C : Sizes) (h : List Entry) → IsLegal P C h → MayRenew (unit_of P C h) → IsOpening P C (renewed h)
goes_on_with P C h legal may = record { legal = (legal, (refl, may)); may = record { none = may.none; goes_on = may.goes_on }; begun = refl }

pub tables_go_on : TablesGoOn
tables_go_on c v is legal may = subst (λ vs. IsOpening c.program (sizes_of c) (renewed_of vs)) (sym is) (goes_on_with c.program (sizes_of c) v.seen legal may)
