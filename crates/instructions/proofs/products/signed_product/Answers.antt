use Rattle.std.proofs.Common.{ap, ◌∙◌}
use Rattle.instructions.specs.Products.{word_of_half}
use Rattle.instructions.proofs.WideProducts.{wide_product}
use Rattle.instructions.proofs.products.signed_product.Goals as goal

pub returns : goal.returns
returns c =
    c.half_of.ensures
    ∙ ap (word_of_half c.args.half)
    (c.cast_unsigned.ensures ∙ wide_product c.args.a c.args.b _ _ c.ranges.a c.ranges.b c.from.ensures c.from-2.ensures)
