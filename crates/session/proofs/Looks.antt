-- Sessions whose words were looked at.
use Rattle.std.proofs.Common.{◌≡◌, inl, inr, List, Option, refl, sym, ap, ◌∙◌, subst}
use Rattle.inorder.specs.History.{IsLegal}
use Rattle.instructions.proofs.Histories.{starts_same}
use Rattle.session.specs.declared.units.UnitJob.{UnitJob}
use Rattle.station.specs.Seats.{TheCore}
use Rattle.session.specs.Moments.{GrowsLegally}
use Rattle.session.specs.Sessions.{MayHaveLooked, OnlyLooked, TheSession}
use Rattle.session.proofs.Histories.{grows_on}
use Rattle.session.proofs.Meetings.{back_on}

same_core : (a b : TheSession) → OnlyLooked a b → b.core ≡ a.core
same_core a b l = ap (λ (s : TheSession). s.core) l.kept

same_units : (a b : TheSession) → OnlyLooked a b → b.units ≡ a.units
same_units a b l = ap (λ (s : TheSession). s.units) l.kept

-- What is true of the core and the units after a look
pub at_core : (a b : TheSession) → OnlyLooked a b → (F : TheCore → Type 0) → F b.core → F a.core
at_core a b l F f = subst F (same_core a b l) f

pub at_both : (a b : TheSession) → OnlyLooked a b → (F : TheCore → List (Option UnitJob) → Type 0) → F b.core b.units → F a.core a.units
at_both a b l F f = subst (λ (z : TheCore × List (Option UnitJob)). F z.0 z.1) (λ i. (same_core a b l i, same_units a b l i)) f

-- No look at all
pub looks_none : (s : TheSession) → IsLegal s.core.program s.core.sizes s.seen → OnlyLooked s s
looks_none s legal = record {
  grows = record { begins = starts_same s.seen; legal = legal };
  kept = refl;
  commits = record { core = refl; by = refl; ended = refl; shown = refl; state = refl };
}

-- Two looks are one
pub looks_on : (a b c : TheSession) → OnlyLooked a b → OnlyLooked b c → OnlyLooked a c
looks_on a b c l m = record {
  grows = grows_on a.core a.seen b.seen c.seen l.grows (subst (λ (k : TheCore). GrowsLegally k b.seen c.seen) (same_core a b l) m.grows);
  kept = m.kept ∙ ap (λ (s : TheSession). record s { seen = c.seen; commits = c.commits; fronts = c.fronts }) l.kept;
  commits = back_on a.commits b.commits c.commits l.commits m.commits;
}

-- And where nothing may have been looked at
pub may_on : (a b c : TheSession) → MayHaveLooked a b → OnlyLooked b c → OnlyLooked a c
may_on a b c (inl e) m = subst (λ (s : TheSession). OnlyLooked s c) e m
may_on a b c (inr l) m = looks_on a b c l m

pub on_may : (a b c : TheSession) → OnlyLooked a b → MayHaveLooked b c → OnlyLooked a c
on_may a b c l (inl e) = subst (λ (s : TheSession). OnlyLooked a s) (sym e) l
on_may a b c l (inr m) = looks_on a b c l m
