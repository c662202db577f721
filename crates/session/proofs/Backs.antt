-- A back that has only seen more, or shown a snapshot.
use Rattle.std.proofs.Common.{◌≡◌, refl, sym, ap, ◌∙◌, subst}
use Rattle.back.specs.Backs.{IsSameBack, TheBack, back_state}
use Rattle.back.specs.Commits.{CommitAnswers}
use Rattle.back.specs.declared.answers.Commit.{Commit}
use Rattle.snapshots.specs.Snapshots.{snapshot}

-- All but what it has seen is the same
but_seen : (v w : TheBack) → IsSameBack v w → w.woken ≡ v.woken → w ≡ record v { seen = w.seen }
but_seen v w s woken i = record { core = s.core i; by = s.by i; seen = w.seen; woken = woken i; ended = s.ended i; shown = s.shown i }

seen_by : (v w : TheBack) → IsSameBack v w → w.woken ≡ v.woken → v ≡ record w { seen = v.seen }
seen_by v w s woken i = record { core = sym s.core i; by = sym s.by i; seen = v.seen; woken = sym woken i; ended = sym s.ended i; shown = sym s.shown i }

-- A commit between two meetings
pub commit_says : (a b c d : TheBack) (answer : Commit) → IsSameBack a b → b.woken ≡ a.woken → CommitAnswers b c answer → IsSameBack c d → d.woken ≡ c.woken →
    CommitAnswers (record a { seen = b.seen }) (record d { seen = c.seen }) answer
commit_says a b c d answer first woken says last woken-2 =
    let early = subst (λ x. CommitAnswers x c answer) (but_seen a b first woken) says in
    subst (λ y. CommitAnswers (record a { seen = b.seen }) y answer) (seen_by c d last woken-2) early

-- What shows a snapshot stays the same in all else
pub shows : (a b c : TheBack) → IsSameBack a b → c ≡ record b { shown = c.shown } → IsSameBack (record a { shown = c.shown }) c
shows a b c s e = record {
  core = ap (λ (x : TheBack). x.core) e ∙ s.core;
  by = ap (λ (x : TheBack). x.by) e ∙ s.by;
  ended = ap (λ (x : TheBack). x.ended) e ∙ s.ended;
  shown = refl;
  state = ap back_state e ∙ s.state;
}

pub new_shown : (b c : TheBack) → c ≡ record b { shown = snapshot (back_state b) } → c ≡ record b { shown = c.shown }
new_shown b c e i = record { core = (e i).core; by = (e i).by; seen = (e i).seen; woken = (e i).woken; ended = (e i).ended; shown = c.shown }
