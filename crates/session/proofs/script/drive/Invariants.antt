use Rattle.counted_io.specs.Counted.{failures_of, known_by}
use Rattle.std.proofs.Common.{◌≡◌}
use Rattle.session.specs.Scripts.{AreTold}
use Rattle.session.proofs.script.drive.Given as goal

-- n lines were answered, and no call failed
abbrev pub invariant-loop-number : goal.invariant-loop-number
invariant-loop-number g l = record {
  quiet : failures_of l.writer ≡ failures_of l.fn.writer;
  told : AreTold l.echo (g.I.Read.remaining l.fn.reader) (g.I.Read.remaining l.reader) l.fn.session l.session
      (known_by g.W.Write.contents l.fn.writer) (known_by g.W.Write.contents l.writer) l.number l.each;
}
