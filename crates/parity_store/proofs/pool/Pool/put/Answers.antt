use Rattle.std.proofs.Common.{◌≡◌, ◌≤◌, ◌-◌, ℕ, refl, sym, subst, arith, length, IsTrue}
use Rattle.std.specs.Prelude.{slice_set}
use Rattle.disk_model.specs.declared.disk_file.DiskFile.{DiskFile}
use Rattle.disk_model.specs.declared.disk_file.DiskFile.TheVariants.{Output}
use Rattle.disk_model.specs.Store.{Store, file_of}
use Rattle.disk_model.specs.Moments.{Among, LeavesOnly}
use Rattle.disk_model.proofs.Keeping.{untouched_twice}
use Rattle.parity_store.specs.declared.header.PoolHeader.{PoolHeader}
use Rattle.parity_store.specs.Layout.{pool_length}
use Rattle.parity_store.specs.Slots.{IsPool}
use Rattle.parity_store.specs.OnDisk.{PoolView, StandsOn, IsPutting, next_header}
use Rattle.parity_store.specs.Writing.{IsRebuilt}
use Rattle.parity_store.proofs.LengthLaws.{stands_length}
use Rattle.parity_store.proofs.MomentLaws.{untouched_file}
use Rattle.parity_store.proofs.ReadyLaws.{IsReady, looked_length, looked_moments, ready_moments, ready_stands, put_entry, put_output}
use Rattle.parity_store.proofs.pool.Pool.put.Goals as goal

abbrev the_pool : DiskFile → PoolHeader → PoolView
the_pool f h = record { file = f; header = h }

pub one_lost-requires-clause-whole : goal.one_lost-requires-clause-whole
one_lost-requires-clause-whole g c = λ tells.
    subst (λ (p : PoolView). length (file_of p.file (g.D.Disk.view c.args.disk.now).seen) ≡ pool_length p.header) (sym c.self.view_is) (stands_length c.args.self.now (g.D.Disk.view c.args.disk.now) (c.requires.stands tells))

pub rebuild_lost-requires-clause-whole : goal.rebuild_lost-requires-clause-whole
rebuild_lost-requires-clause-whole g c = λ mid.
    subst (λ (p : PoolView). length (file_of p.file (g.D.Disk.view c.one_lost.new.disk).seen) ≡ pool_length p.header) (sym c.self.view_is) (looked_length c.args.self.now (g.D.Disk.view c.args.disk.now) (g.D.Disk.view c.one_lost.new.disk) c.one_lost.ensures.looked c.requires.stands mid)

pub write_next-requires-clause-whole : goal.write_next-requires-clause-whole
write_next-requires-clause-whole g c = λ late.
    subst (λ (p : PoolView). length (file_of p.file (g.D.Disk.view c.rebuild_lost.new.disk).seen) ≡ pool_length p.header) (sym c.self.view_is) (looked_length c.args.self.now (g.D.Disk.view c.args.disk.now) (g.D.Disk.view c.rebuild_lost.new.disk) (untouched_twice _ _ _ c.one_lost.ensures.looked c.rebuild_lost.ensures.looked) c.requires.stands late)

pub returns-in_err-lost-clause-any_moment : goal.returns-in_err-lost-clause-any_moment
returns-in_err-lost-clause-any_moment g c = rw (← c.self.view_is) (λ tells list k pool i job.
    let stands = subst (λ (p : PoolView). StandsOn p (g.D.Disk.view c.args.disk.now)) (sym c.self.view_is) (c.requires.stands tells) in
    looked_moments (the_pool c.self.inside.file c.self.inside.header) (g.D.Disk.view c.args.disk.now) (g.D.Disk.view c.one_lost.new.disk) (slice_set list i c.args.bytes.now) tells (g.met.D.Disk.lawful c.args.disk.now tells) stands c.one_lost.ensures.looked)

pub returns-then-self-clause-any_moment : goal.returns-then-self-clause-any_moment
returns-then-self-clause-any_moment g c = rw (← c.self.view_is) (λ tells list k pool i job.
    let stands = subst (λ (p : PoolView). StandsOn p (g.D.Disk.view c.args.disk.now)) (sym c.self.view_is) (c.requires.stands tells) in
    looked_moments (the_pool c.self.inside.file c.self.inside.header) (g.D.Disk.view c.args.disk.now) (g.D.Disk.view c.one_lost.new.disk) (slice_set list i c.args.bytes.now) tells (g.met.D.Disk.lawful c.args.disk.now tells) stands c.one_lost.ensures.looked)

pub returns-in_err-rebuild_lost-clause-any_moment : goal.returns-in_err-rebuild_lost-clause-any_moment
returns-in_err-rebuild_lost-clause-any_moment g c = rw (← c.self.view_is) (λ tells list k pool i job.
    let stands = subst (λ (p : PoolView). StandsOn p (g.D.Disk.view c.args.disk.now)) (sym c.self.view_is) (c.requires.stands tells) in
    looked_moments (the_pool c.self.inside.file c.self.inside.header) (g.D.Disk.view c.args.disk.now) (g.D.Disk.view c.rebuild_lost.new.disk) (slice_set list i c.args.bytes.now) tells (g.met.D.Disk.lawful c.args.disk.now tells) stands (untouched_twice _ _ _ c.one_lost.ensures.looked c.rebuild_lost.ensures.looked))

pub returns-in_err-lost-clause-output : goal.returns-in_err-lost-clause-output
returns-in_err-lost-clause-output g c = λ tells. untouched_file Output (g.D.Disk.view c.args.disk.now) (g.D.Disk.view c.one_lost.new.disk) tells c.one_lost.ensures.looked

pub returns-then-self-clause-output : goal.returns-then-self-clause-output
returns-then-self-clause-output g c = λ tells. untouched_file Output (g.D.Disk.view c.args.disk.now) (g.D.Disk.view c.one_lost.new.disk) tells c.one_lost.ensures.looked

pub returns-in_err-rebuild_lost-clause-output : goal.returns-in_err-rebuild_lost-clause-output
returns-in_err-rebuild_lost-clause-output g c = λ tells. untouched_file Output (g.D.Disk.view c.args.disk.now) (g.D.Disk.view c.rebuild_lost.new.disk) tells (untouched_twice _ _ _ c.one_lost.ensures.looked c.rebuild_lost.ensures.looked)

pub returns-in_err-write_next-clause-any_moment : goal.returns-in_err-write_next-clause-any_moment
returns-in_err-write_next-clause-any_moment g c = rw (← c.self.view_is) (λ tells list k pool i job.
    let stands = subst (λ (p : PoolView). StandsOn p (g.D.Disk.view c.args.disk.now)) (sym c.self.view_is) (c.requires.stands tells) in
    let most = subst (λ (p : PoolView). c.args.job ≤ p.header.jobs) (sym c.self.view_is) c.requires.most in
    let least = c.requires.least in
    let fits = subst (λ (p : PoolView). length c.args.bytes.now ≤ p.header.size) (sym c.self.view_is) c.requires.fits in
    let l1 = c.one_lost.ensures.looked in
    let t1 = subst IsTrue (sym l1.tells) tells in
    let l2 = c.rebuild_lost.ensures.looked in
    let t2 = subst IsTrue (sym l2.tells) t1 in
    let rebuilt = c.rebuild_lost.new.slots.rebuilt.items in
    let ready : IsReady (the_pool c.self.inside.file c.self.inside.header) (g.D.Disk.view c.args.disk.now) (g.D.Disk.view c.rebuild_lost.new.disk) k list (c.args.job - 1) c.args.bytes.now c.in_ok-lost.lost rebuilt = record {
      tells = tells;
      disk = g.met.D.Disk.lawful c.args.disk.now tells;
      stands = stands;
      looked = untouched_twice (g.D.Disk.view c.args.disk.now) (g.D.Disk.view c.one_lost.new.disk) (g.D.Disk.view c.rebuild_lost.new.disk) l1 l2;
      held = c.self.invariant.header;
      free = (let g0 = c.self.invariant.header.generation_held in omega (arith, g0));
      is = pool;
      one = c.in_ok-lost.ensures.answer tells;
      rebuilt_is = subst (λ (s : Store). IsRebuilt c.self.inside.header (file_of c.self.inside.file s) c.in_ok-lost.lost rebuilt) (sym (l2.seen t1)) (c.in_ok-rebuild_lost.ensures.answer t1);
      job_in = omega (arith, most, least);
      fits = fits;
    } in
    let at : c.args.job - 1 ≡ i = omega (arith, job) in
    subst (λ (n : ℕ). LeavesOnly (g.D.Disk.view c.args.disk.now) (g.D.Disk.view c.write_next.new.disk) (Among (g.D.Disk.view c.args.disk.now).may_leave (IsPutting (the_pool c.self.inside.file c.self.inside.header) (slice_set list n c.args.bytes.now)))) at (ready_moments (the_pool c.self.inside.file c.self.inside.header) (g.D.Disk.view c.args.disk.now) (g.D.Disk.view c.rebuild_lost.new.disk) (g.D.Disk.view c.write_next.new.disk) k list (c.args.job - 1) c.args.bytes.now c.in_ok-lost.lost rebuilt ready (c.write_next.ensures.any_moment t2)))

pub returns-clause-any_moment : goal.returns-clause-any_moment
returns-clause-any_moment g c = rw (← c.self.view_is) (λ tells list k pool i job.
    let stands = subst (λ (p : PoolView). StandsOn p (g.D.Disk.view c.args.disk.now)) (sym c.self.view_is) (c.requires.stands tells) in
    let most = subst (λ (p : PoolView). c.args.job ≤ p.header.jobs) (sym c.self.view_is) c.requires.most in
    let least = c.requires.least in
    let fits = subst (λ (p : PoolView). length c.args.bytes.now ≤ p.header.size) (sym c.self.view_is) c.requires.fits in
    let l1 = c.one_lost.ensures.looked in
    let t1 = subst IsTrue (sym l1.tells) tells in
    let l2 = c.rebuild_lost.ensures.looked in
    let t2 = subst IsTrue (sym l2.tells) t1 in
    let rebuilt = c.rebuild_lost.new.slots.rebuilt.items in
    let ready : IsReady (the_pool c.self.inside.file c.self.inside.header) (g.D.Disk.view c.args.disk.now) (g.D.Disk.view c.rebuild_lost.new.disk) k list (c.args.job - 1) c.args.bytes.now c.in_ok-lost.lost rebuilt = record {
      tells = tells;
      disk = g.met.D.Disk.lawful c.args.disk.now tells;
      stands = stands;
      looked = untouched_twice (g.D.Disk.view c.args.disk.now) (g.D.Disk.view c.one_lost.new.disk) (g.D.Disk.view c.rebuild_lost.new.disk) l1 l2;
      held = c.self.invariant.header;
      free = (let g0 = c.self.invariant.header.generation_held in omega (arith, g0));
      is = pool;
      one = c.in_ok-lost.ensures.answer tells;
      rebuilt_is = subst (λ (s : Store). IsRebuilt c.self.inside.header (file_of c.self.inside.file s) c.in_ok-lost.lost rebuilt) (sym (l2.seen t1)) (c.in_ok-rebuild_lost.ensures.answer t1);
      job_in = omega (arith, most, least);
      fits = fits;
    } in
    let at : c.args.job - 1 ≡ i = omega (arith, job) in
    subst (λ (n : ℕ). LeavesOnly (g.D.Disk.view c.args.disk.now) (g.D.Disk.view c.write_next.new.disk) (Among (g.D.Disk.view c.args.disk.now).may_leave (IsPutting (the_pool c.self.inside.file c.self.inside.header) (slice_set list n c.args.bytes.now)))) at (ready_moments (the_pool c.self.inside.file c.self.inside.header) (g.D.Disk.view c.args.disk.now) (g.D.Disk.view c.rebuild_lost.new.disk) (g.D.Disk.view c.write_next.new.disk) k list (c.args.job - 1) c.args.bytes.now c.in_ok-lost.lost rebuilt ready (c.write_next.ensures.any_moment t2)))

pub returns-clause-answer : goal.returns-clause-answer
returns-clause-answer g c = rw (← c.self.view_is) (λ tells list k pool i job.
    let stands = subst (λ (p : PoolView). StandsOn p (g.D.Disk.view c.args.disk.now)) (sym c.self.view_is) (c.requires.stands tells) in
    let most = subst (λ (p : PoolView). c.args.job ≤ p.header.jobs) (sym c.self.view_is) c.requires.most in
    let least = c.requires.least in
    let fits = subst (λ (p : PoolView). length c.args.bytes.now ≤ p.header.size) (sym c.self.view_is) c.requires.fits in
    let l1 = c.one_lost.ensures.looked in
    let t1 = subst IsTrue (sym l1.tells) tells in
    let l2 = c.rebuild_lost.ensures.looked in
    let t2 = subst IsTrue (sym l2.tells) t1 in
    let rebuilt = c.rebuild_lost.new.slots.rebuilt.items in
    let ready : IsReady (the_pool c.self.inside.file c.self.inside.header) (g.D.Disk.view c.args.disk.now) (g.D.Disk.view c.rebuild_lost.new.disk) k list (c.args.job - 1) c.args.bytes.now c.in_ok-lost.lost rebuilt = record {
      tells = tells;
      disk = g.met.D.Disk.lawful c.args.disk.now tells;
      stands = stands;
      looked = untouched_twice (g.D.Disk.view c.args.disk.now) (g.D.Disk.view c.one_lost.new.disk) (g.D.Disk.view c.rebuild_lost.new.disk) l1 l2;
      held = c.self.invariant.header;
      free = (let g0 = c.self.invariant.header.generation_held in omega (arith, g0));
      is = pool;
      one = c.in_ok-lost.ensures.answer tells;
      rebuilt_is = subst (λ (s : Store). IsRebuilt c.self.inside.header (file_of c.self.inside.file s) c.in_ok-lost.lost rebuilt) (sym (l2.seen t1)) (c.in_ok-rebuild_lost.ensures.answer t1);
      job_in = omega (arith, most, least);
      fits = fits;
    } in
    let at : c.args.job - 1 ≡ i = omega (arith, job) in
    let h = next_header c.self.inside.header in
    let f = c.beside-self-inside.result in
    let all = ready_stands (the_pool c.self.inside.file c.self.inside.header) (g.D.Disk.view c.args.disk.now) (g.D.Disk.view c.rebuild_lost.new.disk) (g.D.Disk.view c.write_next.new.disk) k list (c.args.job - 1) c.args.bytes.now c.in_ok-lost.lost rebuilt ready (c.in_ok-write_next.ensures.answer t2) (c.write_next.ensures.others t2) in
    let moved = subst (λ (x : DiskFile). StandsOn (the_pool x h) (g.D.Disk.view c.write_next.new.disk) × IsPool h (slice_set list (c.args.job - 1) c.args.bytes.now) (file_of x (g.D.Disk.view c.write_next.new.disk).seen)) (sym c.beside-self-inside.ensures) all in
    subst (λ (n : ℕ). StandsOn (the_pool f h) (g.D.Disk.view c.write_next.new.disk) × IsPool h (slice_set list n c.args.bytes.now) (file_of f (g.D.Disk.view c.write_next.new.disk).seen)) at moved)

pub returns-clause-next : goal.returns-clause-next
returns-clause-next g c = rw (← c.self.view_is) (c.beside-self-inside.ensures, refl)

pub returns-in_err-write_next-clause-output : goal.returns-in_err-write_next-clause-output
returns-in_err-write_next-clause-output g c = λ tells.
    let l1 = c.one_lost.ensures.looked in
    let t1 = subst IsTrue (sym l1.tells) tells in
    let l2 = c.rebuild_lost.ensures.looked in
    let t2 = subst IsTrue (sym l2.tells) t1 in
    put_output c.self.inside.file (g.D.Disk.view c.args.disk.now) (g.D.Disk.view c.rebuild_lost.new.disk) (g.D.Disk.view c.write_next.new.disk) tells (untouched_twice (g.D.Disk.view c.args.disk.now) (g.D.Disk.view c.one_lost.new.disk) (g.D.Disk.view c.rebuild_lost.new.disk) l1 l2) (c.write_next.ensures.others t2)

pub returns-clause-output : goal.returns-clause-output
returns-clause-output g c = λ tells.
    let l1 = c.one_lost.ensures.looked in
    let t1 = subst IsTrue (sym l1.tells) tells in
    let l2 = c.rebuild_lost.ensures.looked in
    let t2 = subst IsTrue (sym l2.tells) t1 in
    put_output c.self.inside.file (g.D.Disk.view c.args.disk.now) (g.D.Disk.view c.rebuild_lost.new.disk) (g.D.Disk.view c.write_next.new.disk) tells (untouched_twice (g.D.Disk.view c.args.disk.now) (g.D.Disk.view c.one_lost.new.disk) (g.D.Disk.view c.rebuild_lost.new.disk) l1 l2) (c.write_next.ensures.others t2)

pub returns-in_err-write_next-clause-entry : goal.returns-in_err-write_next-clause-entry
returns-in_err-write_next-clause-entry g c = rw (← c.self.view_is) (λ tells.
    let l1 = c.one_lost.ensures.looked in
    let t1 = subst IsTrue (sym l1.tells) tells in
    let l2 = c.rebuild_lost.ensures.looked in
    let t2 = subst IsTrue (sym l2.tells) t1 in
    put_entry c.self.inside.file (g.D.Disk.view c.args.disk.now) (g.D.Disk.view c.rebuild_lost.new.disk) (g.D.Disk.view c.write_next.new.disk) c.self.invariant.image_file tells (untouched_twice (g.D.Disk.view c.args.disk.now) (g.D.Disk.view c.one_lost.new.disk) (g.D.Disk.view c.rebuild_lost.new.disk) l1 l2) (c.write_next.ensures.others t2))

pub returns-clause-entry : goal.returns-clause-entry
returns-clause-entry g c = rw (← c.self.view_is) (λ tells.
    let l1 = c.one_lost.ensures.looked in
    let t1 = subst IsTrue (sym l1.tells) tells in
    let l2 = c.rebuild_lost.ensures.looked in
    let t2 = subst IsTrue (sym l2.tells) t1 in
    put_entry c.self.inside.file (g.D.Disk.view c.args.disk.now) (g.D.Disk.view c.rebuild_lost.new.disk) (g.D.Disk.view c.write_next.new.disk) c.self.invariant.image_file tells (untouched_twice (g.D.Disk.view c.args.disk.now) (g.D.Disk.view c.one_lost.new.disk) (g.D.Disk.view c.rebuild_lost.new.disk) l1 l2) (c.write_next.ensures.others t2))

pub returns-in_err-lost-clause-entry : goal.returns-in_err-lost-clause-entry
returns-in_err-lost-clause-entry g c = λ tells. untouched_file c.args.self.now.file (g.D.Disk.view c.args.disk.now) (g.D.Disk.view c.one_lost.new.disk) tells c.one_lost.ensures.looked

pub returns-then-self-clause-entry : goal.returns-then-self-clause-entry
returns-then-self-clause-entry g c = λ tells. untouched_file c.args.self.now.file (g.D.Disk.view c.args.disk.now) (g.D.Disk.view c.one_lost.new.disk) tells c.one_lost.ensures.looked

pub returns-in_err-rebuild_lost-clause-entry : goal.returns-in_err-rebuild_lost-clause-entry
returns-in_err-rebuild_lost-clause-entry g c = λ tells. untouched_file c.args.self.now.file (g.D.Disk.view c.args.disk.now) (g.D.Disk.view c.rebuild_lost.new.disk) tells (untouched_twice _ _ _ c.one_lost.ensures.looked c.rebuild_lost.ensures.looked)
