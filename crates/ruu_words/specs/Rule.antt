-- The rule: what is always true of the table.
use Rattle.std.specs.Prelude.{◌≡◌, ◌≢◌, ℕ, ◌<◌, ◌≤◌, List, length, slice_index}
use mathlib.Core.Option.{some}
use lib.ListN.{get_elem?}
use Rattle.atomic_table.specs.Table.{State}
use Rattle.instructions.specs.Programs.{Program}
use Rattle.inorder.specs.declared.history.Entry.{Entry}
use Rattle.inorder.specs.History.{IsLegal, front, renewals, unit_of}
use Rattle.inorder.specs.Unit.{Sizes}
use Rattle.ruu_words.specs.declared.place.Place.{Place}
use Rattle.ruu_words.specs.declared.rule.Draft.{Draft}
use Rattle.ruu_words.specs.declared.rule.Setup.{Setup}
use Rattle.ruu_words.specs.declared.rule.View.{View}
use Rattle.ruu_words.specs.Content.{Content, IsDraft}
use Rattle.ruu_words.specs.Fields.{pack}
use Rattle.ruu_words.specs.Places.{IsPlace, index, words_for}
use Rattle.ruu_words.specs.Openings.{sizes_of, opening_of}
use Rattle.ruu_words.specs.Views.{IsOf, IsAlive, ViewFits}

-- The rule, for a history h and a let in progress d
pub record IsKept (P : Program) (C : Sizes) (opening : List Entry) (s : State ℕ View)
    (h : List Entry) (d : Draft) : Type 0 where
  pub legal : IsLegal P C h
  -- nothing is renewed in a table: a renewal makes another one
  pub one_table : renewals h ≡ renewals opening
  pub wide : length s.words ≡ words_for C.ring
  -- each word is what the unit of the history says
  pub words : (x : Place) → IsPlace C.ring x →
      Content P C (unit_of P C h) d x (slice_index s.words (index C.ring x))
  -- each seat has seen a beginning of the history
  pub views : (id : ℕ) (v : View) → get_elem? s.views id ≡ some v → ViewFits opening h v
  -- no two have a number in common
  pub apart : (i j n : ℕ) (u v : View) → get_elem? s.views i ≡ some u → get_elem? s.views j ≡ some v →
      i ≢ j → IsAlive u.role → IsAlive v.role → IsOf u n → ¬ IsOf v n
  -- the let in progress is part of the front's view, and allowed
  pub draft : (id : ℕ) (v : View) → get_elem? s.views id ≡ some v → IsAlive v.role → v.by ≡ front →
      v.draft ≡ d
  pub proper : IsDraft P C (unit_of P C h) d

-- There is one legal history
pub record Keeps (P : Program) (C : Sizes) (opening : List Entry) (s : State ℕ View) : Type 0 where
  pub history : List Entry
  pub draft : Draft
  pub kept : IsKept P C opening s history draft

-- There is one legal history of a table with this setup
abbrev pub Kept : Setup → State ℕ View → Type 0
Kept c s = Keeps c.program (sizes_of c) (opening_of c) s

-- The words at the start: each station is free, with the first tag, and all others are 0
pub record IsStart (C : Sizes) (words : List ℕ) : Type 0 where
  pub wide : length words ≡ words_for C.ring
  pub stations : (s : ℕ) → s < C.ring → slice_index words s ≡ pack C.first_tag 0 0
  pub others : (i : ℕ) → C.ring ≤ i → slice_index words i ≡ 0
