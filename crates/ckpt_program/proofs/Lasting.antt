-- What the status tells of the disk: where a command was refused its contents stay, and where a life was told it ended as its source.
use Rattle.std.proofs.Common.{◌≡◌, ◌⊎◌, ◌++◌, refl, inl, inr, ⊎_elim, ◌∙◌, sym, ap, subst, ℕ, IsTrue, List, Option, Some, None, Result, Ok, Err, OnOk, arith}
use Rattle.ckpt_base.specs.Sink.{SinkView}
use Rattle.ckpt_base.specs.declared.ending.Ending.{Ending}
use Rattle.ckpt_base.specs.declared.ending.Ending.TheVariants as ending
use Rattle.command_words.specs.declared.command.Command.{Command}
use Rattle.command_words.specs.declared.command.Command.TheVariants.{Plain, Check, Compile, Report, Run, Restart, Images, Coalesce, Clear, Why, Drill, Generate}
use Rattle.disk_model.specs.Store.{Store}
use Rattle.disk_model.specs.View.{View}
use Rattle.disk_model.specs.Plate.{Plate, plate}
use Rattle.run_images.specs.Source.{Source as RunSource}
use Rattle.one_life.specs.declared.living.Lived.{Lived}
use Rattle.ckpt_program.specs.Carries.{word_at, CarriesSome}
use Rattle.ckpt_program.specs.DiskStages.{OnlyLasting, Stays}
use Rattle.ckpt_program.specs.Headline.{IsSourceIn, TellsSource, ToldAsSource, ToldBy, HasEnded, EndsIn, EndsAsSource, PutsInOrder}
use Rattle.ckpt_program.specs.LifeRow.{Lives}
use Rattle.ckpt_program.specs.LifeStages.{KeepsRefused, OutputLasts, TellsLife, to_begin, to_go_on}
use Rattle.ckpt_program.specs.Sight.{Sight}
use Rattle.ckpt_program.specs.Stage.{Comes}
use Rattle.ckpt_program.specs.Texts.{ending_status, status_of}
use Rattle.ckpt_program.specs.Told.{Takes, TakesAll, TakesPart, Tells, HasFixedLine, HasTextAtHand, IsDone, IsEnding}
use Rattle.ckpt_program.specs.Rows as row
use Rattle.ckpt_program.specs.Top.{IsLife, KeepsContents, LastsOutput}
use Rattle.ckpt_program.specs.Upkeep.{TellsCleared, TellsJoined, joined_text}
use Rattle.store_upkeep.specs.declared.coalesced.Coalesced.{Coalesced}
use Rattle.ckpt_program.specs.declared.done.Done.{Done}
use Rattle.ckpt_program.specs.declared.done.Done.TheVariants as done
use Rattle.ckpt_program.specs.declared.life_stages.Asked.{Asked}
use Rattle.ckpt_program.specs.declared.stop.Cause.TheVariants as cause
use Rattle.ckpt_program.specs.declared.stop.Stop.{Stop}
use Rattle.ckpt_program.specs.declared.stop.Stop.TheVariants.{NoMemory, Because}
use Rattle.ckpt_program.proofs.Disks.{stays_lasting}

-- ---- a text that was at hand

told_at_hand : (l : Lived) (d : Done) → TellsLife l d → HasTextAtHand (Ok d)
unfolding TellsLife
told_at_hand l (done.Told t) tells = tt
told_at_hand l (done.Accepted t) tells = absurd tells
told_at_hand l (done.Finished t) tells = absurd tells
told_at_hand l (done.Printed t) tells = absurd tells
told_at_hand l (done.Noted t) tells = absurd tells

joined_at_hand : (c : Coalesced) (d : Done) → TellsJoined c d → HasTextAtHand (Ok d)
unfolding TellsJoined
joined_at_hand c (done.Noted t) tells = tt
joined_at_hand c (done.Told t) tells = absurd tells
joined_at_hand c (done.Accepted t) tells = absurd tells
joined_at_hand c (done.Finished t) tells = absurd tells
joined_at_hand c (done.Printed t) tells = absurd tells

cleared_at_hand : (d : Done) → TellsCleared d → HasTextAtHand (Ok d)
unfolding TellsCleared
cleared_at_hand (done.Noted t) tells = tt
cleared_at_hand (done.Told t) tells = absurd tells
cleared_at_hand (done.Accepted t) tells = absurd tells
cleared_at_hand (done.Finished t) tells = absurd tells
cleared_at_hand (done.Printed t) tells = absurd tells

pub ending_is : (e : Ending) → IsEnding (ending_status e)
ending_is (ending.Ended v) = inl (omega arith)
ending_is (ending.Trapped t) = inr (inl (omega arith))
ending_is ending.Going = inr (inr (omega arith))

pub status_at_hand : (text : List ℕ) (e : Ending) (s : ℕ) (old new : SinkView) (result : ℕ) → s ≡ ending_status e → Takes text s 7 old new result → IsDone result
status_at_hand text e s old new result is took =
    ⊎_elim (λ (all : TakesAll text s old new result). inl (subst IsEnding (sym (all.status_is ∙ is)) (ending_is e))) (λ (part : TakesPart text 7 old new result). inr part.status_is) took

-- ---- where the contents stay

-- a command that was stopped, with this status
lasts_stopped : (e : Stop) (v w : View) (result : ℕ) → KeepsRefused {A = Done} (Err e) v w → (HasFixedLine (Err e) → result ≡ status_of (Err e)) → ((IsDone result ⊎ (result ≡ 5)) → ⊥) → OnlyLasting v w
lasts_stopped NoMemory v w result keeps fixed not = keeps.changes
lasts_stopped (Because cause.Usage) v w result keeps fixed not = keeps.changes
lasts_stopped (Because (cause.Refused r)) v w result keeps fixed not = keeps.changes
lasts_stopped (Because cause.DiskFault) v w result keeps fixed not = absurd (not (inr (fixed refl)))
lasts_stopped (Because cause.ShelfFault) v w result keeps fixed not = keeps.changes
lasts_stopped (Because (cause.TooLarge d)) v w result keeps fixed not = keeps.changes
lasts_stopped (Because (cause.Damaged file place)) v w result keeps fixed not = keeps.changes
lasts_stopped (Because (cause.Occupied image step)) v w result keeps fixed not = keeps.changes
lasts_stopped (Because (cause.OtherSource kept given)) v w result keeps fixed not = keeps.changes
lasts_stopped (Because (cause.OtherInput kept given)) v w result keeps fixed not = keeps.changes
lasts_stopped (Because (cause.Behind bound step)) v w result keeps fixed not = keeps.changes
lasts_stopped (Because (cause.NotAnExclude n)) v w result keeps fixed not = keeps.changes
lasts_stopped (Because (cause.NotACell n)) v w result keeps fixed not = keeps.changes

lasts_lived : (source input : List ℕ) (a : Asked) (old new : Sight) (v w : View) (o : Result Done Stop) (result : ℕ) → Comes (Lives source input a old new (plate v) (plate w)) o → KeepsRefused o v w
    → (HasFixedLine o → result ≡ status_of o) → (HasTextAtHand o → IsDone result) → ((IsDone result ⊎ (result ≡ 5)) → ⊥) → OnlyLasting v w
lasts_lived source input a old new v w (Ok d) result came keeps fixed at_hand not = let lived = came.2.2.2 in absurd (not (inl (at_hand (told_at_hand lived.0 d lived.2))))
lasts_lived source input a old new v w (Err e) result came keeps fixed at_hand not = lasts_stopped e v w result keeps fixed not

lasts_ordered : (o : Result Done Stop) (v w : View) (result : ℕ) → ((d : Done) → o ≡ Ok d → HasTextAtHand (Ok d)) → KeepsRefused o v w → (HasFixedLine o → result ≡ status_of o) → (HasTextAtHand o → IsDone result) → ((IsDone result ⊎ (result ≡ 5)) → ⊥) → OnlyLasting v w
lasts_ordered (Ok d) v w result hand keeps fixed at_hand not = absurd (not (inl (at_hand (hand d refl))))
lasts_ordered (Err e) v w result hand keeps fixed at_hand not = lasts_stopped e v w result keeps fixed not

joining_at_hand : (old new : Plate) (o : Result Done Stop) → Comes (row.Coalesce old new) o → (d : Done) → o ≡ Ok d → HasTextAtHand (Ok d)
joining_at_hand old new (Ok e) came d is = subst (λ (x : Result Done Stop). HasTextAtHand x) is (joined_at_hand came.2.0 e came.2.2)
joining_at_hand old new (Err e) came d is = absurd (cc is)

clearing_at_hand : (old new : Plate) (o : Result Done Stop) → Comes (row.Clear old new) o → (d : Done) → o ≡ Ok d → HasTextAtHand (Ok d)
clearing_at_hand old new (Ok e) came d is = subst (λ (x : Result Done Stop). HasTextAtHand x) is (cleared_at_hand e came.2.2)
clearing_at_hand old new (Err e) came d is = absurd (cc is)

pub lasts_refused : (words : List (List ℕ)) (c : Option Command) (old new : Sight) (v w : View) (o : Result Done Stop) (result : ℕ) → Comes (CarriesSome words c old new (plate v) (plate w)) o → KeepsRefused o v w → (KeepsContents c → Stays v w)
    → (HasFixedLine o → result ≡ status_of o) → (HasTextAtHand o → IsDone result) → ((IsDone result ⊎ (result ≡ 5)) → ⊥) → OnlyLasting v w
lasts_refused words None old new v w o result came keeps stays fixed at_hand not = stays_lasting v w (stays tt)
lasts_refused words (Some (Plain source input until)) old new v w o result came keeps stays fixed at_hand not = stays_lasting v w (stays tt)
lasts_refused words (Some (Check source)) old new v w o result came keeps stays fixed at_hand not = stays_lasting v w (stays tt)
lasts_refused words (Some (Compile source)) old new v w o result came keeps stays fixed at_hand not = stays_lasting v w (stays tt)
lasts_refused words (Some (Report source)) old new v w o result came keeps stays fixed at_hand not = stays_lasting v w (stays tt)
lasts_refused words (Some (Images dir)) old new v w o result came keeps stays fixed at_hand not = stays_lasting v w (stays tt)
lasts_refused words (Some (Coalesce dir)) old new v w o result came keeps stays fixed at_hand not = lasts_ordered o v w result (joining_at_hand (plate v) (plate w) o came) keeps fixed at_hand not
lasts_refused words (Some (Clear dir)) old new v w o result came keeps stays fixed at_hand not = lasts_ordered o v w result (clearing_at_hand (plate v) (plate w) o came) keeps fixed at_hand not
lasts_refused words (Some (Why source exclude cell)) old new v w o result came keeps stays fixed at_hand not = stays_lasting v w (stays tt)
lasts_refused words (Some (Drill source input settings fill stops)) old new v w o result came keeps stays fixed at_hand not = stays_lasting v w (stays tt)
lasts_refused words (Some (Generate functions)) old new v w o result came keeps stays fixed at_hand not = stays_lasting v w (stays tt)
lasts_refused words (Some (Run source input dir settings)) old new v w o result came keeps stays fixed at_hand not =
    lasts_lived (word_at words source) (word_at words input) (to_begin settings) old new v w o result came keeps fixed at_hand not
lasts_refused words (Some (Restart source input dir settings fill)) old new v w o result came keeps stays fixed at_hand not =
    lasts_lived (word_at words source) (word_at words input) (to_go_on settings fill) old new v w o result came keeps fixed at_hand not

-- ---- the headline

-- one that was stopped has not the status of a run
pub not_ending : (e : Stop) → IsEnding (status_of (Err e)) → ⊥
not_ending NoMemory is = ⊎_elim (λ h. omega (arith, h)) (λ more. ⊎_elim (λ h. omega (arith, h)) (λ h. omega (arith, h)) more) is
not_ending (Because cause.Usage) is = ⊎_elim (λ h. omega (arith, h)) (λ more. ⊎_elim (λ h. omega (arith, h)) (λ h. omega (arith, h)) more) is
not_ending (Because (cause.Refused r)) is = ⊎_elim (λ h. omega (arith, h)) (λ more. ⊎_elim (λ h. omega (arith, h)) (λ h. omega (arith, h)) more) is
not_ending (Because cause.DiskFault) is = ⊎_elim (λ h. omega (arith, h)) (λ more. ⊎_elim (λ h. omega (arith, h)) (λ h. omega (arith, h)) more) is
not_ending (Because cause.ShelfFault) is = ⊎_elim (λ h. omega (arith, h)) (λ more. ⊎_elim (λ h. omega (arith, h)) (λ h. omega (arith, h)) more) is
not_ending (Because (cause.TooLarge d)) is = ⊎_elim (λ h. omega (arith, h)) (λ more. ⊎_elim (λ h. omega (arith, h)) (λ h. omega (arith, h)) more) is
not_ending (Because (cause.Damaged file place)) is = ⊎_elim (λ h. omega (arith, h)) (λ more. ⊎_elim (λ h. omega (arith, h)) (λ h. omega (arith, h)) more) is
not_ending (Because (cause.Occupied image step)) is = ⊎_elim (λ h. omega (arith, h)) (λ more. ⊎_elim (λ h. omega (arith, h)) (λ h. omega (arith, h)) more) is
not_ending (Because (cause.OtherSource kept given)) is = ⊎_elim (λ h. omega (arith, h)) (λ more. ⊎_elim (λ h. omega (arith, h)) (λ h. omega (arith, h)) more) is
not_ending (Because (cause.OtherInput kept given)) is = ⊎_elim (λ h. omega (arith, h)) (λ more. ⊎_elim (λ h. omega (arith, h)) (λ h. omega (arith, h)) more) is
not_ending (Because (cause.Behind bound step)) is = ⊎_elim (λ h. omega (arith, h)) (λ more. ⊎_elim (λ h. omega (arith, h)) (λ h. omega (arith, h)) more) is
not_ending (Because (cause.NotAnExclude n)) is = ⊎_elim (λ h. omega (arith, h)) (λ more. ⊎_elim (λ h. omega (arith, h)) (λ h. omega (arith, h)) more) is
not_ending (Because (cause.NotACell n)) is = ⊎_elim (λ h. omega (arith, h)) (λ more. ⊎_elim (λ h. omega (arith, h)) (λ h. omega (arith, h)) more) is

pub stopped_status : (e : Stop) (k l : SinkView) (result : ℕ) → Tells (Err e) k l result → result ≡ status_of (Err e)
stopped_status e k l result tells = ⊎_elim (λ all. all.status_is) (λ part. part.status_is) tells

pub not_seven : IsEnding 7 → ⊥
not_seven is = ⊎_elim (λ h. omega (arith, h)) (λ more. ⊎_elim (λ h. omega (arith, h)) (λ h. omega (arith, h)) more) is

-- a life that was told, with the status of a run
has_ended : (s : RunSource) (a : Asked) (seen : Store) (d : Done) (w : View) (k l : SinkView) (result : ℕ) → TellsSource s a seen d w → Tells (Ok d) k l result → IsEnding result → HasEnded s a seen w k l result
unfolding TellsLife
has_ended s a seen (done.Told t) w k l result came tells is =
    ⊎_elim (λ all. record {
      started = came.started;
      every = came.every;
      starts = came.starts;
      ending = all.status_is ∙ ap ending_status came.tells.0;
      told = λ told. all.whole told ∙ ap (λ (text : List ℕ). k.written ++ text) came.tells.1;
      store = came.store;
    }) (λ part. absurd (not_seven (subst IsEnding part.status_is is))) tells
has_ended s a seen (done.Accepted t) w k l result came tells is = absurd came.tells
has_ended s a seen (done.Finished t) w k l result came tells is = absurd came.tells
has_ended s a seen (done.Printed t) w k l result came tells is = absurd came.tells
has_ended s a seen (done.Noted t) w k l result came tells is = absurd came.tells

ends_told : (Is : RunSource → Type 0) (a : Asked) (v w : View) (d : Done) (k l : SinkView) (result : ℕ) → ToldAsSource Is a v d w → Tells (Ok d) k l result → EndsIn Is a v w k l result
ends_told Is a v w d k l result came tells = λ told s is stand ending. has_ended s a v.seen d w k l result (came told s is stand) tells ending

ends_stopped : (Is : RunSource → Type 0) (a : Asked) (v w : View) (e : Stop) (k l : SinkView) (result : ℕ) → Tells (Err e) k l result → EndsIn Is a v w k l result
ends_stopped Is a v w e k l result tells = λ told s is stand ending. absurd (not_ending e (subst IsEnding (stopped_status e k l result tells) ending))

pub ends_as_source : (words : List (List ℕ)) (c : Option Command) (shelf : Sight) (v w : View) (o : Result Done Stop) (k l : SinkView) (result : ℕ) → ToldBy words c shelf v o w → Tells o k l result → EndsAsSource words c shelf v w k l result
ends_as_source words (Some (Run source input dir settings)) shelf v w (Ok d) k l result came tells = ends_told (IsSourceIn (word_at words source) (word_at words input) shelf) (to_begin settings) v w d k l result came tells
ends_as_source words (Some (Run source input dir settings)) shelf v w (Err e) k l result came tells = ends_stopped (IsSourceIn (word_at words source) (word_at words input) shelf) (to_begin settings) v w e k l result tells
ends_as_source words (Some (Restart source input dir settings fill)) shelf v w (Ok d) k l result came tells = ends_told (IsSourceIn (word_at words source) (word_at words input) shelf) (to_go_on settings fill) v w d k l result came tells
ends_as_source words (Some (Restart source input dir settings fill)) shelf v w (Err e) k l result came tells = ends_stopped (IsSourceIn (word_at words source) (word_at words input) shelf) (to_go_on settings fill) v w e k l result tells
ends_as_source words None shelf v w o k l result came tells = tt
ends_as_source words (Some (Plain source input until)) shelf v w o k l result came tells = tt
ends_as_source words (Some (Check source)) shelf v w o k l result came tells = tt
ends_as_source words (Some (Compile source)) shelf v w o k l result came tells = tt
ends_as_source words (Some (Report source)) shelf v w o k l result came tells = tt
ends_as_source words (Some (Images dir)) shelf v w o k l result came tells = tt
ends_as_source words (Some (Coalesce dir)) shelf v w o k l result came tells = tt
ends_as_source words (Some (Clear dir)) shelf v w o k l result came tells = tt
ends_as_source words (Some (Why source exclude cell)) shelf v w o k l result came tells = tt
ends_as_source words (Some (Drill source input settings fill stops)) shelf v w o k l result came tells = tt
ends_as_source words (Some (Generate functions)) shelf v w o k l result came tells = tt

-- nothing was told of a life for want of memory
pub none_told : (words : List (List ℕ)) (c : Option Command) (shelf : Sight) (v w : View) (e : Stop) → ToldBy words c shelf v (Err e) w
none_told words None shelf v w e = tt
none_told words (Some (Run source input dir settings)) shelf v w e = tt
none_told words (Some (Restart source input dir settings fill)) shelf v w e = tt
none_told words (Some (Plain source input until)) shelf v w e = tt
none_told words (Some (Check source)) shelf v w e = tt
none_told words (Some (Compile source)) shelf v w e = tt
none_told words (Some (Report source)) shelf v w e = tt
none_told words (Some (Images dir)) shelf v w e = tt
none_told words (Some (Coalesce dir)) shelf v w e = tt
none_told words (Some (Clear dir)) shelf v w e = tt
none_told words (Some (Why source exclude cell)) shelf v w e = tt
none_told words (Some (Drill source input settings fill stops)) shelf v w e = tt
none_told words (Some (Generate functions)) shelf v w e = tt

pub output_lasting : (c : Option Command) (w : View) (o : Result Done Stop) (k l : SinkView) (result : ℕ) → (IsLife c → OnOk o (OutputLasts w)) → Tells o k l result → LastsOutput c result w
output_lasting c w (Ok d) k l result lasts tells = λ lives ending. lasts lives
output_lasting c w (Err e) k l result lasts tells = λ lives ending. absurd (not_ending e (subst IsEnding (stopped_status e k l result tells) ending))

-- ---- a store that was put in order

text_joined : (c : Coalesced) (d : Done) (k l : SinkView) (result : ℕ) → TellsJoined c d → Tells (Ok d) k l result → result ≡ 0 → IsTrue k.tells → l.written ≡ k.written ++ joined_text c
unfolding TellsJoined
text_joined c (done.Noted t) k l result tells took zero told =
    ⊎_elim (λ all. all.whole told ∙ ap (λ (text : List ℕ). k.written ++ text) tells) (λ part. absurd (omega (arith, part.status_is, zero))) took
text_joined c (done.Told t) k l result tells took zero told = absurd tells
text_joined c (done.Accepted t) k l result tells took zero told = absurd tells
text_joined c (done.Finished t) k l result tells took zero told = absurd tells
text_joined c (done.Printed t) k l result tells took zero told = absurd tells

pub in_order : (words : List (List ℕ)) (c : Option Command) (shelf : Sight) (v w : View) (o : Result Done Stop) (k l : SinkView) (result : ℕ) → ToldBy words c shelf v o w → Tells o k l result → PutsInOrder c v w k l result
in_order words (Some (Coalesce dir)) shelf v w (Ok d) k l result came tells = λ told zero. let x = came told in (x.0, x.2, λ there. text_joined x.0 d k l result x.1 tells zero there)
in_order words (Some (Coalesce dir)) shelf v w (Err e) k l result came tells = λ told zero. absurd (not_ending e (subst IsEnding (stopped_status e k l result tells) (inl zero)))
in_order words (Some (Clear dir)) shelf v w (Ok d) k l result came tells = λ told zero. came told
in_order words (Some (Clear dir)) shelf v w (Err e) k l result came tells = λ told zero. absurd (not_ending e (subst IsEnding (stopped_status e k l result tells) (inl zero)))
in_order words None shelf v w o k l result came tells = tt
in_order words (Some (Plain source input until)) shelf v w o k l result came tells = tt
in_order words (Some (Check source)) shelf v w o k l result came tells = tt
in_order words (Some (Compile source)) shelf v w o k l result came tells = tt
in_order words (Some (Report source)) shelf v w o k l result came tells = tt
in_order words (Some (Why source exclude cell)) shelf v w o k l result came tells = tt
in_order words (Some (Drill source input settings fill stops)) shelf v w o k l result came tells = tt
in_order words (Some (Generate functions)) shelf v w o k l result came tells = tt
in_order words (Some (Images dir)) shelf v w o k l result came tells = tt
in_order words (Some (Run source input dir settings)) shelf v w o k l result came tells = tt
in_order words (Some (Restart source input dir settings fill)) shelf v w o k l result came tells = tt
