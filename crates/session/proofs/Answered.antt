-- Calls with what is read beside them.
use Rattle.std.proofs.Common.{◌≡◌, false, ℕ, List, Option, sym, ap, ◌∙◌, subst}
use Rattle.back.specs.Backs.{IsSameBack, TheBack}
use Rattle.back.specs.declared.answers.Commit.{Commit as Committed}
use Rattle.front.specs.declared.answers.Turn.{Turn as Turned}
use Rattle.session.specs.declared.commands.Command.TheVariants.{Claim, Commit, Turn}
use Rattle.session.specs.declared.replies.Producer.{Producer}
use Rattle.session.specs.declared.replies.Info.{Info}
use Rattle.session.specs.declared.replies.Reply.TheVariants as say
use Rattle.session.specs.declared.replies.Row.{Row}
use Rattle.session.specs.declared.units.Claimed.{Claimed}
use Rattle.session.specs.declared.units.UnitJob.{UnitJob}
use Rattle.session.specs.Accounts.{IsAwaited, IsOfLet}
use Rattle.session.specs.Moments.{GrowsLegally}
use Rattle.session.specs.Replies.{IsCommit, IsTurn}
use Rattle.session.specs.Rows.{IsOldestTold}
use Rattle.session.specs.Sessions.{BackHasStepped, FrontHasStepped, IsReplied, OnlyLooked, TheSession, UnitHasStepped}
use Rattle.session.specs.Workers.{HasClaimed}
use Rattle.session.proofs.Histories.{grows_on}
use Rattle.station.specs.Seats.{TheCore}

grows_by : (a b c : TheSession) → b.core ≡ a.core → GrowsLegally a.core a.seen b.seen → GrowsLegally b.core b.seen c.seen → GrowsLegally a.core a.seen c.seen
grows_by a b c same one more = grows_on a.core a.seen b.seen c.seen one (subst (λ (k : TheCore). GrowsLegally k b.seen c.seen) same more)

pub turn_replied : (a b c : TheSession) (given : Option ℕ) (turn : Turned) (info : Option Info) → FrontHasStepped a b → IsTurn a.core given a.seen b.seen turn →
    OnlyLooked b c → IsOfLet b.core b.seen c.seen turn info → IsReplied a c (Turn given) (say.Turn turn info)
turn_replied a b c given turn info step says looks of =
    let same : b.core ≡ a.core = ap (λ (s : TheSession). s.core) step.kept in
    let commits : b.commits ≡ a.commits = ap (λ (s : TheSession). s.commits) step.kept in
    let touched : b.touched ≡ c.touched = sym (ap (λ (s : TheSession). s.touched) looks.kept) in
    record {
      grows = grows_by a b c same step.grows looks.grows;
      says = (
        record { middle = b.seen; says = says; info_is = subst (λ (k : TheCore). IsOfLet k b.seen c.seen turn info) same of },
        subst (λ (k : TheBack). IsSameBack k c.commits) commits looks.commits,
      );
      kept = looks.kept ∙ (ap (λ (s : TheSession). record s { seen = c.seen; commits = c.commits; fronts = c.fronts }) step.kept
          ∙ (λ i. record a { seen = c.seen; commits = c.commits; fronts = c.fronts; touched = touched i; rested = false }));
    }

pub claim_replied : (a b c : TheSession) (unit station : ℕ) (answer : Claimed) (from : Option Producer) → UnitHasStepped a b →
    HasClaimed a.core a.seen b.seen a.units b.units unit station answer → OnlyLooked b c → IsAwaited b.core b.seen c.seen station answer from →
    IsReplied a c (Claim unit station) (say.Claim answer from)
claim_replied a b c unit station answer from step claims looks awaited =
    let same : b.core ≡ a.core = ap (λ (s : TheSession). s.core) step.kept in
    let commits : b.commits ≡ a.commits = ap (λ (s : TheSession). s.commits) step.kept in
    let units : b.units ≡ c.units = sym (ap (λ (s : TheSession). s.units) looks.kept) in
    record {
      grows = grows_by a b c same step.grows looks.grows;
      says = (
        record {
          middle = b.seen;
          claims = subst (λ (us : List (Option UnitJob)). HasClaimed a.core a.seen b.seen a.units us unit station answer) units claims;
          from_is = subst (λ (k : TheCore). IsAwaited k b.seen c.seen station answer from) same awaited;
        },
        subst (λ (k : TheBack). IsSameBack k c.commits) commits looks.commits,
      );
      kept = looks.kept ∙ (ap (λ (s : TheSession). record s { seen = c.seen; commits = c.commits; fronts = c.fronts }) step.kept
          ∙ (λ i. record a { seen = c.seen; commits = c.commits; fronts = c.fronts; units = units i }));
    }

pub commit_replied : (a b c : TheSession) (commit : Committed) (oldest : Option (ℕ × Row)) → OnlyLooked a b → IsOldestTold a.core a.seen b.seen a.units oldest → BackHasStepped b c →
    c.commits.shown ≡ b.commits.shown → IsCommit b.commits c.commits b.seen c.seen commit → IsReplied a c Commit (say.Commit commit oldest)
commit_replied a b c commit oldest looks told step shown says =
    let same : b.core ≡ a.core = ap (λ (s : TheSession). s.core) looks.kept in
    let fronts : b.fronts ≡ c.fronts = sym (ap (λ (s : TheSession). s.fronts) step.kept) in
    record {
      grows = grows_by a b c same looks.grows step.grows;
      says = record { middle = b.seen; looked = b.commits; same = looks.commits; oldest_is = told; says = says; shown = shown ∙ looks.commits.shown };
      kept = step.kept ∙ (ap (λ (s : TheSession). record s { seen = c.seen; commits = c.commits }) looks.kept
          ∙ (λ i. record a { seen = c.seen; commits = c.commits; fronts = fronts i }));
    }
