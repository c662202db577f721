-- What a place for a judge owns.
use Rattle.std.specs.Prelude.{Option, None, Some}
use base.Fml.{Fml, ftrue, ffalse}
use denote.RattleType.{RattleType}
use denote.RawPtr.{Ptr, block_ptr, null_ptr}
use Rattle.std.specs.declared.alloc.Global.{Global}
use Rattle.std.specs.contracts.impls.GlobalAllocator.TheImpl.{ghosts}
use Rattle.std_alloc.specs.Box.Ownership.{box_owns}

module _ (R : RattleType) (a : Global) where
  -- a value in a block of its own
  abbrev pub boxed : Ptr → R.Denot → Fml
  boxed = box_owns (ghosts.dealloc_token a) R

  -- nothing at null, and a value in a block of its own at another pointer
  abbrev pub held_at : Ptr → Option R.Denot → Fml
  held_at null_ptr None = ftrue
  held_at null_ptr (Some x) = ffalse
  held_at (block_ptr b o) None = ffalse
  held_at (block_ptr b o) (Some x) = boxed (block_ptr b o) x
