-- Plans: a step that adds nothing, one that adds a refusal or a mark, and one that changes a station's word.
use Rattle.std.proofs.Common.{◌≡◌, ◌≢◌, ℕ, suc, true, false, cond, eqb, List, [], ◌∷◌, Some, refl, sym, ap, ◌∙◌, subst, ne_eqb}
use Rattle.instructions.specs.Programs.{Program}
use Rattle.inorder.specs.declared.history.Act.{Act}
use Rattle.inorder.specs.declared.history.Act.TheVariants.{Claim, Deliver, Finish, Link, Load, Mend, Retire, Speculate, Squash}
use Rattle.inorder.specs.declared.history.Entry.{Entry}
use Rattle.inorder.specs.declared.history.Event.{Event}
use Rattle.inorder.specs.declared.history.Event.TheVariants.{Does, Marks, Refuses}
use Rattle.inorder.specs.declared.history.Mark.{Mark}
use Rattle.inorder.specs.declared.history.Refusal.{Refusal}
use Rattle.inorder.specs.declared.history.Step.TheVariants.{On}
use Rattle.inorder.specs.History.{IsLegal, IsTheirAct, MayMark, MayRefuse, taken_of, unit_of}
use Rattle.inorder.specs.Legal.{Allowed, applied, changed}
use Rattle.inorder.specs.OperandWords.{KeepsOperands}
use Rattle.inorder.specs.StationWords.{ChangesStation, station_word, station_word_of}
use Rattle.inorder.specs.Tenants.{Tenant}
use Rattle.inorder.specs.Unit.{Sizes, UpdateUnit, at, older, recent}
use Rattle.inorder.proofs.Basics.{eqb_self}
use Rattle.inorder.proofs.Moves.{IsNoLinkAct}
use Rattle.inorder.proofs.OperandsShown.{operands_follow}
use Rattle.inorder.proofs.StationsShown.{stations_follow}
use Rattle.ruu_words.specs.declared.place.Place.{Place}
use Rattle.ruu_words.specs.declared.place.Place.TheVariants.{Info, Link as LinkPlace, Operand, Station}
use Rattle.ruu_words.specs.declared.rule.Draft.{Draft}
use Rattle.ruu_words.specs.Content.{Content, IsDraft, IsStation}
use Rattle.ruu_words.specs.Plans.{Plan}
use Rattle.ruu_words.proofs.Groups.{MayStep, draft_stays, info_stays, link_other, operand_drafted}
use Rattle.inorder.proofs.Histories.{allowed_steps, unit_sound}

-- a kind of step that tells more
pub plan_as : (P : Program) (C : Sizes) (id : ℕ) (h : List Entry) (d : Draft) (x : Place) (new : ℕ) (Kind More : List Entry → Draft → List Event → Type 0) →
    ((d' : Draft) (events : List Event) → Kind h d' events → More h d' events) → Plan P C id h d x new Kind → Plan P C id h d x new More
plan_as P C id h d x new Kind More f p = record {
  events = p.events;
  draft = p.draft;
  mine = p.mine;
  legal = p.legal;
  same = p.same;
  proper = p.proper;
  here = p.here;
  else = p.else;
  kind = f p.draft p.events p.kind;
}

-- an act that changes a station is no link
no_link : (act : Act) → ChangesStation act → IsNoLinkAct act
no_link (Link k) h = absurd h
no_link (Deliver k) h = absurd h
no_link Claim h = tt
no_link Finish h = tt
no_link Load h = tt
no_link (Retire n) h = tt
no_link Squash h = tt
no_link (Speculate s) h = tt
no_link Mend h = tt

-- and keeps the operands
keeps_operands : (act : Act) → ChangesStation act → KeepsOperands act
keeps_operands (Link k) h = absurd h
keeps_operands (Deliver k) h = absurd h
keeps_operands Claim h = tt
keeps_operands Finish h = tt
keeps_operands Load h = tt
keeps_operands (Retire n) h = tt
keeps_operands Squash h = tt
keeps_operands (Speculate s) h = tt
keeps_operands Mend h = tt

-- the number of a station's place
place_apart : (x y : ℕ) → Station x ≢ Station y → y ≢ x
place_apart x y ne e = ne (ap Station (sym e))

module _ (P : Program) (C : Sizes) (id : ℕ) (h : List Entry) (d : Draft) (legal : IsLegal P C h) (draft : IsDraft P C (unit_of P C h) d) where
  abbrev U : UpdateUnit
  U = unit_of P C h

  pub looks : (x : Place) (n : ℕ) → Content P C U d x n → (Kind : List Entry → Draft → List Event → Type 0) → Kind h d [] → Plan P C id h d x n Kind
  looks x n content Kind kind = record {
    events = [];
    draft = d;
    mine = λ _. refl;
    legal = legal;
    same = refl;
    proper = draft;
    here = content;
    else = λ y m _ _ z. z;
    kind = kind;
  }

  pub tells : (x : Place) (n : ℕ) (r : Refusal) → MayRefuse P C h id r → Content P C U d x n → (Kind : List Entry → Draft → List Event → Type 0) → Kind h d (Refuses r ∷ []) → Plan P C id h d x n Kind
  tells x n r may content Kind kind = record {
    events = Refuses r ∷ [];
    draft = d;
    mine = λ _. refl;
    legal = (legal, may);
    same = refl;
    proper = draft;
    here = content;
    else = λ y m _ _ z. z;
    kind = kind;
  }

  -- a mark, at the last step of its call
  pub marks : (x : Place) (n : ℕ) (m : Mark) → MayMark U id m → Content P C U d x n → (Kind : List Entry → Draft → List Event → Type 0) → Kind h d (Marks m ∷ []) → Plan P C id h d x n Kind
  marks x n m may content Kind kind = record {
    events = Marks m ∷ [];
    draft = d;
    mine = λ _. refl;
    legal = (legal, may);
    same = refl;
    proper = draft;
    here = content;
    else = λ y m _ _ z. z;
    kind = kind;
  }

  -- the words of the other places
  module _ (p : ℕ) (act : Act) (t : Tenant) (of : ChangesStation act) (who : MayStep d (On p act)) (theirs : IsTheirAct id act) (may : Allowed P C U id (On p act)) (is : at U.tenants p ≡ Some t) where
    abbrev V : UpdateUnit
    V = applied P C U id (On p act)

    moved : (x : ℕ) → station_word C (recent V) x ≡ cond (eqb t.station x) (station_word_of (suc t.tag) (Some (changed P id act t (older U.tenants p)))) (station_word C (recent U) x)
    moved x = ((stations_follow P C (taken_of h) id).moves (allowed_steps P C h legal)).after_act p act t x of may is

    others : (y : Place) (n : ℕ) → y ≢ Station t.station → Content P C U d y n → Content P C V d y n
    others (Station x) n other c =
        let off : eqb t.station x ≡ false = ne_eqb t.station x (place_apart x t.station other) in
        subst (λ z. IsStation z n) (sym (moved x ∙ ap (λ b. cond b (station_word_of (suc t.tag) (Some (changed P id act t (older U.tenants p)))) (station_word C (recent U) x)) off)) c
    others (Info x) n other c = info_stays P C U id p act may (unit_sound P C h legal) d (draft_stays P C U id (On p act) d who may (unit_sound P C h legal) draft).1 x n c
    others (Operand x k) n other c =
        operand_drafted P C U V x k n ((operands_follow P C (taken_of h) id (allowed_steps P C h legal)).kept p act x k (keeps_operands act of) may) d
        (draft_stays P C U id (On p act) d who may (unit_sound P C h legal) draft).1 c
    others (LinkPlace x c k) n other l = link_other P C U id p act (no_link act of) may (unit_sound P C h legal) x c k n l

    pub changes : (new : ℕ) → IsStation (station_word_of (suc t.tag) (Some (changed P id act t (older U.tenants p)))) new → (Kind : List Entry → Draft → List Event → Type 0) →
        Kind h d (Does (On p act) ∷ []) → Plan P C id h d (Station t.station) new Kind
    changes new word Kind kind = record {
      events = Does (On p act) ∷ [];
      draft = d;
      mine = λ _. refl;
      legal = (legal, (theirs, may));
      same = refl;
      proper = (draft_stays P C U id (On p act) d who may (unit_sound P C h legal) draft).0;
      here =
          let on : eqb t.station t.station ≡ true = eqb_self t.station in
          subst (λ z. IsStation z new)
          (sym (moved t.station ∙ ap (λ b. cond b (station_word_of (suc t.tag) (Some (changed P id act t (older U.tenants p)))) (station_word C (recent U) t.station)) on)) word;
      else = λ y n _ other c. others y n other c;
      kind = kind;
    }
