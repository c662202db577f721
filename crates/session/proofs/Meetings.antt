-- Some that meet the seat that has seen all, one after another.
use Rattle.std.proofs.Common.{◌≢◌, List, Option, ◌∙◌}
use Rattle.instructions.specs.Histories.{StartsWith}
use Rattle.back.specs.Backs.{IsSameBack, TheBack}
use Rattle.session.specs.declared.names.Party.{Party}
use Rattle.session.specs.declared.names.Party.TheVariants.{Back, Front, Unit}
use Rattle.session.specs.declared.units.UnitJob.{UnitJob}
use Rattle.session.specs.Sessions.{HasToldAll, IsSomebody, seen_by, StaysAsSeen, TheSession, TwoHaveMet}
use Rattle.session.specs.Workers.{StaySeen, seen_at}
use Rattle.instructions.proofs.Histories.{starts_on}

module _ (old new : TheSession) where
  pub stays : StartsWith new.fronts old.fronts → StartsWith new.commits.seen old.commits.seen → StaySeen old.units new.units → IsSameBack old.commits new.commits → StaysAsSeen old new
  stays front back units same = record { keeps = keeps; units = units; commits = same }
    where
      keeps : (p : Party) → StartsWith (seen_by p new) (seen_by p old)
      keeps Front = front
      keeps Back = back
      keeps (Unit u) = units.keeps u

units_on : (a b c : List (Option UnitJob)) → StaySeen a b → StaySeen b c → StaySeen a c
units_on a b c s t = record { keeps = λ at. starts_on (seen_at a at) (seen_at b at) (seen_at c at) (s.keeps at) (t.keeps at); jobs = λ at. t.jobs at ∙ s.jobs at }

pub back_on : (a b c : TheBack) → IsSameBack a b → IsSameBack b c → IsSameBack a c
back_on a b c s t = record { core = t.core ∙ s.core; by = t.by ∙ s.by; ended = t.ended ∙ s.ended; shown = t.shown ∙ s.shown; state = t.state ∙ s.state }

stays_on : (a b c : TheSession) → StaysAsSeen a b → StaysAsSeen b c → StaysAsSeen a c
stays_on a b c s t = record {
  keeps = λ p. starts_on (seen_by p a) (seen_by p b) (seen_by p c) (s.keeps p) (t.keeps p);
  units = units_on a.units b.units c.units s.units t.units;
  commits = back_on a.commits b.commits c.commits s.commits t.commits;
}

-- One meets it, then the other, then the one again
pub have_met : (a b c d : TheSession) (one other : Party) → IsSomebody one → IsSomebody other → one ≢ other → HasToldAll a b one → HasToldAll b c other → HasToldAll c d one →
    TwoHaveMet a d one other
have_met a b c d one other one_is other_is two first second third = record {
  one_is = one_is;
  other_is = other_is;
  two = two;
  stays = stays_on a c d (stays_on a b c first.stays second.stays) third.stays;
  one_told = starts_on (seen_by other a) (seen_by other b) (seen_by one d) (first.stays.keeps other)
      (starts_on (seen_by other b) (seen_by other c) (seen_by one d) (second.stays.keeps other) (starts_on (seen_by other c) c.seen (seen_by one d) second.tells third.learns));
  other_told = starts_on (seen_by one a) (seen_by one b) (seen_by other d) (first.stays.keeps one)
      (starts_on (seen_by one b) b.seen (seen_by other d) first.tells (starts_on b.seen (seen_by other c) (seen_by other d) second.learns (third.stays.keeps other)));
}
