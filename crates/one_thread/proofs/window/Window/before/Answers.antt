use Rattle.std.proofs.Common.{take, ap, ◌∙◌}
use Rattle.one_thread.proofs.Scan.{take_parts}
use Rattle.one_thread.proofs.window.Window.before.Goals as goal

pub returns : goal.returns
returns c = take_parts c.as_slices.result.0.now c.as_slices.result.1.now c.args.i c.min-cut.result c.min-cut.ensures ∙ ap (take c.args.i) (c.as_slices.ensures ∙ c.self.view_is)
