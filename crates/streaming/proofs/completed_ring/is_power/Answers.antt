use Rattle.std.proofs.Common.{⊎_elim}
use Rattle.streaming.proofs.completed_ring.is_power.Goals as goal

pub returns-in-2 : goal.returns-in-2
returns-in-2 c t =
    ⊎_elim (λ e. (1, e)) (⊎_elim (λ e. (2, e)) (⊎_elim (λ e. (3, e)) (⊎_elim (λ e. (4, e)) (λ e. (5, e))))) c.in-2.is
