-- What a life keeps is good for its source when it begins, and when it is resumed.
use Rattle.std.proofs.Common.{◌≡◌, ◌≢◌, refl, sym, ◌∙◌, ap, subst, ℕ, ◌≤◌, IsTrue, List, [], ◌∷◌, ◌++◌, take, append-nil, Option, Some, None, Ok, inl, inr, arith}
use Rattle.std.proofs.lemmas.List.{take-take}
use Rattle.disk_model.specs.declared.disk_file.DiskFile.{DiskFile}
use Rattle.disk_model.specs.declared.disk_file.DiskFile.TheVariants.{Output, One, Two}
use Rattle.disk_model.specs.Store.{Store, file_of}
use Rattle.disk_model.specs.View.{View, IsDisk}
use Rattle.disk_model.specs.Moments.{Among, LeavesOnly}
use Rattle.disk_model.proofs.Calls.{weaken}
use Rattle.image_format.specs.declared.fields.Fields.{Fields}
use Rattle.image_format.specs.declared.header.Header.{Header}
use Rattle.image_format.specs.declared.fields.Marks.{Marks}
use Rattle.image_format.specs.Image.{Image}
use Rattle.image_chain.specs.declared.chain.Current.{Current}
use Rattle.image_chain.specs.Append.{header_of, other}
use Rattle.image_chain.specs.ChainView.{ChainView}
use Rattle.image_chain.specs.Lists.{Lists, Rests, found_of}
use Rattle.image_chain.specs.Records.{Found, header_in, chain_in, newest_of}
use Rattle.image_chain.proofs.FoundLaws.{found_there, there_found}
use Rattle.image_chain.proofs.LoopLaws.{rest_lists}
use Rattle.output_file.specs.Pushed.{Pushed, begun_behind}
use Rattle.output_file.specs.OnDisk.{IsBehind}
use Rattle.life_journal.specs.Begun.{HasNoChain, IsCutBehind}
use Rattle.life_journal.specs.JournalView.{JournalView}
use Rattle.life_journal.specs.Holding.{HoldsJournal}
use Rattle.run_images.specs.Images.{Taking}
use Rattle.run_images.specs.JoinedList.{IsJoinedList}
use Rattle.run_images.specs.Hold.{HoldUnwritten}
use Rattle.run_images.specs.Source.{Source, IsSource, images_of}
use Rattle.run_images.specs.Stands.{Stands, StandsFor, StandsWithin, ChainStands, AllStand}
use Rattle.run_images.specs.Compiled.{CompiledView, IsCompiled}
use Rattle.run_images.specs.Origin.{Origin, begun_at, IsResumedAt, IsOfSource}
use Rattle.run_images.proofs.ChainLaws.{kept_stands_on}
use Rattle.run_images.proofs.FoundLaws.{chainless_stands, other_not}
use Rattle.run_images.proofs.OutputLaws.{open_same, lists_same, grow_behind, stands_on as stands_behind}
use Rattle.run_images.proofs.StandLaws.{kept_stands}
use Rattle.ckpt_runner.specs.Good.{JournalStands}

-- ---- a life that begins

pub begun_moments : (s : Source) (u v : View) → LeavesOnly u v HasNoChain → LeavesOnly u v (Stands s)
begun_moments s u v run = weaken u v (Stands s) HasNoChain run (λ c none. (chainless_stands s 0 c none).stands)

some_none : (f : Fields) → None ≡ Some f → ⊥
some_none f e = cc

pub begun_good : (s : Source) (c : CompiledView) (marks : Marks) (every : ℕ) (input m : List ℕ) (j : JournalView) (u v : View) → IsTrue u.tells → IsOfSource s (begun_at c marks every input)
    → j.chain.current.every ≡ every → HoldsJournal j v [] [] → LeavesOnly u v HasNoChain → JournalStands s (begun_at c marks every input) [] j m v
begun_good s c marks every input m j u v told of same holds run = record {
  every = same;
  records = [];
  holds = holds;
  images = append-nil (images_of s every 0) ∙ of.records;
  held = λ f k newest lt fresh kept. absurd (some_none f newest);
  stand = inl refl;
  all = λ d left. chainless_stands s j.output.lasting d (run.now told d left);
}

-- ---- a life that is resumed

some_found : (f : DiskFile) (h : Header) (rs : List Image) (x : Fields) → newest_of None rs ≡ Some x → found_of f h rs ≡ Some (record { file = f; header = h; records = rs })
some_found f h [] x e = absurd (some_none x e)
some_found f h (r ∷ rs) x e = refl

-- the records of a chain at rest, on a store that stands
pub rest_found : (chain : ChainView) (v : View) (rs : List Image) (x : Fields) → newest_of None rs ≡ Some x → Rests chain v rs → (d : Store) → v.may_leave d → chain_in d ≡ Ok (Some (record { file = chain.current.file; header = header_of chain.current; records = rs }))
rest_found chain v rs x newest rest d left = rest_lists chain.current v rs rest.1.0 rest.1.1 d left ∙ ap (λ (o : Option Found). Ok o) (some_found chain.current.file (header_of chain.current) rs x newest)

pub rest_stand : (s : Source) (chain : ChainView) (v : View) (rs : List Image) (x : Fields) → IsDisk v → newest_of None rs ≡ Some x → Rests chain v rs → AllStand s v → StandsFor s chain.current.every rs v.seen.output
rest_stand s chain v rs x disk newest rest all = kept_stands s v.seen (record { file = chain.current.file; header = header_of chain.current; records = rs }) (all v.seen disk.seen_stays) (rest_found chain v rs x newest rest v.seen disk.seen_stays)

-- a chain is that of its image files
beside_file : (f : DiskFile) (d : Store) (file : List ℕ) → f ≢ Output → file_of f d ≡ file_of f (record d { output = file })
beside_file Output d file not = absurd (not refl)
beside_file One d file not = refl
beside_file Two d file not = refl

chain_beside : (d : Store) (file : List ℕ) (found : Found) → chain_in d ≡ Ok (Some found) → chain_in (record d { output = file }) ≡ Ok (Some found)
chain_beside d file found e =
    let it = found_there d found e in
    let mid : Store = record d { output = file } in
    let here = beside_file found.file d file it.image_file in
    let there = beside_file (other found.file) d file (other_not found.file it.image_file) in
    there_found mid found (record {
      image_file = it.image_file;
      lists = lists_same found.file d mid here found.header found.records it.lists;
      aside = λ h a. it.aside h (open_same (other found.file) mid d (sym there) h a);
      headers = λ f not. let h = it.headers f not in (h.0, ap (header_in f) (sym (beside_file f d file not)) ∙ h.1);
    })

-- how much of its output a store needs that stands
abbrev pub NeedMost : Type 0
NeedMost = (s : Source) (c : Store) (found : Found) (newest : Fields) → IsSource s → Stands s c → chain_in c ≡ Ok (Some found) → newest_of None found.records ≡ Some newest → StandsWithin s newest.output_length c

-- a store that stands with these records, and what a crash leaves of it where the output is cut behind what its images need and the chain is settled
pub cut_stands : (need : NeedMost) (s : Source) (chain : Current) (rs : List Image) (x : Fields) (d c : Store) → IsSource s → chain.file ≢ Output → newest_of None rs ≡ Some x → Stands s d
    → chain_in d ≡ Ok (Some (record { file = chain.file; header = header_of chain; records = rs })) → IsCutBehind chain rs x.output_length d c → StandsWithin s x.output_length c
cut_stands need s chain rs x d c is image newest stands chained cut =
    let n = x.output_length in
    let found : Found = record { file = chain.file; header = header_of chain; records = rs } in
    let mid : Store = record d { output = c.output } in
    let le : n ≤ n = omega arith in
    let within : StandsWithin s n d = need s d found x is stands chained newest in
    let lists : Lists chain rs mid = chain_beside d c.output found chained ∙ sym (ap (λ (o : Option Found). Ok o) (some_found chain.file (header_of chain) rs x newest)) in
    let behind : IsBehind n d mid = record { output = cut.output; one = refl; two = refl } in
    let whole : StandsFor s chain.every rs d.output = kept_stands s d found stands chained in
    let front : take n (take n d.output) ≡ take n d.output = take-take n n d.output le in
    let enough = within.within chain.file (header_of chain) rs whole.newest image (found_there d found chained).lists whole.newest_is in
    let at : ChainStands s n d.output chain rs mid = record {
      image_file = image;
      stands = grow_behind s n n d mid le within behind;
      output = cut.output;
      lists = lists;
      records = inr (stands_behind s n chain.every rs d.output (take n d.output) front whole enough);
    } in
    kept_stands_on s n d.output chain rs mid c at (cut.lists, record { output = refl; aside = cut.aside ∙ beside_file (other chain.file) d c.output (other_not chain.file image) })

pub resumed_stand : (need : NeedMost) (s : Source) (chain : ChainView) (rs : List Image) (x : Fields) (u v : View) → IsSource s → newest_of None rs ≡ Some x → AllStand s u → Rests chain u rs
    → LeavesOnly u v (Among u.may_leave (IsCutBehind chain.current rs x.output_length)) → LeavesOnly u v (StandsWithin s x.output_length)
resumed_stand need s chain rs x u v is newest all rest run =
    weaken u v (StandsWithin s x.output_length) (Among u.may_leave (IsCutBehind chain.current rs x.output_length)) run
    (λ c from. cut_stands need s chain.current rs x from.0 c is rest.1.1.alone.image_file newest (all from.0 from.1) (rest_found chain u rs x newest rest from.0 from.1) from.2)

-- what a resumed life holds before its first instruction
pub record EntryLaws : Type 0 where
  pub stand : (s : Source) (c : CompiledView) (every fill : ℕ) (rs : List Image) (file : List ℕ) (o : Origin) → IsSource s → IsCompiled s c → StandsFor s every rs file → IsResumedAt c s.marks every fill s.input rs file o → StandsFor s o.taking.every rs o.output
  pub held : (s : Source) (c : CompiledView) (every fill : ℕ) (rs : List Image) (file : List ℕ) (o : Origin) → IsCompiled s c → StandsFor s every rs file → IsResumedAt c s.marks every fill s.input rs file o → HoldUnwritten s o.since rs o.memory

pub resumed_good : (need : NeedMost) (laws : EntryLaws) (s : Source) (c : CompiledView) (fill : ℕ) (rs : List Image) (o : Origin) (chain : ChainView) (j : JournalView) (u v : View) → IsTrue u.tells → IsDisk u → IsSource s → IsCompiled s c → AllStand s u → Rests chain u rs
    → (at : IsResumedAt c s.marks chain.current.every fill s.input rs u.seen.output o) → IsOfSource s o → j.chain ≡ chain → j.output ≡ begun_behind at.newest.output_length → HoldsJournal j v rs (take at.newest.output_length u.seen.output)
    → LeavesOnly u v (Among u.may_leave (IsCutBehind chain.current rs at.newest.output_length)) → JournalStands s o [] j o.memory v
resumed_good need laws s c fill rs o chain j u v told disk is compiled all rest at of chained output holds run =
    let n = at.newest.output_length in
    let le : n ≤ n = omega arith in
    let every = chain.current.every in
    let file = u.seen.output in
    let whole : StandsFor s every rs file = rest_stand s chain u rs at.newest disk at.newest_is rest all in
    let bytes : o.output ++ [] ≡ take n file = append-nil o.output ∙ at.output in
    let lasting : j.output.lasting ≡ n = ap (λ (x : Pushed). x.lasting) output in
    let front : take j.output.lasting (o.output ++ []) ≡ o.output = ap (λ (k : ℕ). take k (o.output ++ [])) lasting ∙ ap (take n) bytes ∙ take-take n n file le ∙ sym at.output in
    record {
      every = ap (λ (x : ChainView). x.current.every) chained ∙ sym (ap (λ (t : Taking). t.every) at.taking);
      records = rs;
      holds = subst (HoldsJournal j v rs) (sym bytes) holds;
      images = subst (IsJoinedList rs) (sym (append-nil (images_of s o.taking.every o.state.ticks))) (subst (λ (l : List Image). IsJoinedList l (images_of s o.taking.every o.state.ticks)) at.records of.records);
      held = laws.held s c every fill rs file o compiled whole at;
      stand = inr (subst (StandsFor s o.taking.every rs) (sym front) (laws.stand s c every fill rs file o is compiled whole at));
      all = λ d left. subst (λ (k : ℕ). StandsWithin s k d) (sym lasting) ((resumed_stand need s chain rs at.newest u v is at.newest_is all rest run).now told d left);
    }
