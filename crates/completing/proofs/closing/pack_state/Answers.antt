-- The lines and the steps that are read from the desk are packed.
use Rattle.std.proofs.Common.{rules}
use Rattle.layout.proofs.HeaderLaws.{table_limited}
use Rattle.layout.proofs.JudgedLaws.{equations_few}
use Rattle.workspace.proofs.AreaLaws.{steps_room}
use Rattle.completing.proofs.ClosingLaws.{state_packed}
use Rattle.completing.proofs.closing.pack_state.Goals as goal

pub pack-size-requires : goal.pack-size-requires
pack-size-requires c =
    let d = c.args.desk.now in
    let s = c.args.sheet in
    let e = c.lines.ensures in (
      search rules,
      record { limited = table_limited; pairs = d.good.lines; cited = equations_few s.bytes.now s.fits s.header s.read; steps = d.good.steps },
      e.n,
      steps_room d.work.now d.nums d.good _ c.steps.ensures.steps,
      rw e.recs d.good.made,
    )

pub returns : goal.returns
returns c =
    let e = c.lines.ensures in
    state_packed c.args.sheet.bytes.now c.args.sheet.header c.args.sheet.read c.args.desk.now _ _ _ e.recs c.steps.ensures.steps e.words _ _ _ c.pack-size.ensures
