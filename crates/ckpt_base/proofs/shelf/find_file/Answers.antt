use Rattle.ckpt_base.proofs.Files.{found, passed, behind_next, index_next, tested}
use Rattle.ckpt_base.proofs.shelf.find_file.Goals as goal

pub returns-then-eq : goal.returns-then-eq
returns-then-eq c = record {
  found = found c.args.files.now _ _ _ c.args.name.now _ c.in-Some.ensures.cases.0 c.files.invariant.index c.files.invariant.same c.files.invariant.behind (tested _ _ _ _ _ c.as_bytes.ensures.answer c.eq.ensures c.if-eq.true);
}

pub files-preserved : goal.files-preserved
files-preserved c = record {
  index = index_next _ _ _ _ _ c.in-Some.ensures.cases.0 c.files.invariant.index;
  same = passed c.args.files.now _ _ _ c.args.name.now c.in-Some.ensures.cases.0 c.files.invariant.same (tested _ _ _ _ _ c.as_bytes.ensures.answer c.eq.ensures c.if-eq.false);
  behind = behind_next c.args.files.now _ _ _ _ c.in-Some.ensures.cases.0 c.files.invariant.behind;
}
