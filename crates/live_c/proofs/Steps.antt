-- The names that the walks of the exports cite.
-- Cited by `live_call/Proof`, `live_close/Proof`, `live_open/Proof`.
pub use Rattle.std.proofs.Common.{◌≡◌, ℕ, ◌≤◌, ◌<◌, ◌^◌, List, [], ◌∷◌, ◌++◌, refl, sym, ap, ◌∙◌, lit<, w32, MutBor}
pub use Rattle.std.proofs.raw_atomic.Walks.{proved}
pub use Rattle.std.proofs.Handle.{heap_val, heap_Tells}
pub use Rattle.std.specs.contracts.alloc.Global.{the_row as heap_row}
pub use base.Fraction.{full_share}
pub use base.Logic.{SProp, id⊢, sep, emp}
pub use base.Fml.{GName, ftrue, fat, froom, flft, flent, fex, fsep, feq}
pub use mir.Syntax.{named}
pub use mir.Val.{Val, vint, vptr, vunit}
pub use contract.Monad.{fact, fact_i}
pub use contract.Running.{tables}
pub use prog.Wp.{WpFn}
pub use types.Logic.{sem}
pub use types.Kit.{‵, raw, ◌⊛◌, some, later, prop, ◌$◌, ◌∵◌, !, qed, done, move, keep, drop, use0, use1, use2, use3, split, join, fsplit, fjoin, feq_i, feq_l}
pub use types.Kit.{pick, await, regoal, suffices, frame, group, show, fpack, at_ret}
pub use types.Run.{enter, of_opd, unit_lit, addr, load, look, init, stop, no_more, and_then, assigns, returns, lit, bin, first, branches, skips, exec}
pub use types.Run.{returns_within}
pub use types.ByLocal.{alloc_all, pass_all, free_all, look_at, get, through, sets, lands_as, env}
pub use types.Tokens.{lft_new, lft_end}
pub use types.SemTy.{Body}
pub use borrow.Table.OneValue.{part_out_at, part_in_at, reroom}
pub use denote.Builtin.{u8, u32, unit}
pub use denote.Exit.{yes}
pub use denote.Laws.{Is, shows}
pub use denote.Lend.{lends_ref, ref_back}
pub use denote.Memory.{lone, mem, part_at}
pub use denote.Plain.{uint_vals, uint_Tells, uint_Makes, uint_Lawful}
pub use denote.RawPtr.{Ptr, RawPtr, block_ptr, lies_at, room_at, in_a_block, rawptr_vals, rawptr_Tells}
pub use denote.Ref.{MutRef, ShrRef, mut_vals, shr_vals, mut_Tells, shr_Tells}
pub use denote.Signature.{plain, shr_ref_to, shr_slice_of}
pub use denote.Slice.{shr_slice_Lawful, shr_slice_Tells, shr_slice_vals, ShrSlice}
pub use denote.Steps.{nothing, owned, heard, peeks, only}
pub use denote.Struct.Loose.{loose_lawful}
pub use denote.Triple.Call.{calls_at}
pub use denote.Triple.Clauses.{Lasts, lasts}
pub use denote.Triple.Entry.{on_entry}
pub use denote.Triple.Spec.{triple_of}
pub use denote.Triple.Table.{framed}
pub use denote.Triple.Walked.{Stays, walk_of, says, stay_dropped, Goes-dropped, gave_ref, Goes-gave_ref, ends_at}
pub use Rattle.live_request.specs.Slots.{IsCalled, IsSlotOpened, Stands}
pub use Rattle.live_request.specs.contracts.slot.Slot.{the_row, the_type}
pub use Rattle.live_request.specs.declared.slot.Slot.{Slot}
pub use Rattle.live_request.proofs.slot.Slot.TheLaws.{mir as slot_mir, the_loose}
