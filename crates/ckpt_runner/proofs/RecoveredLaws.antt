-- What a recovery that refuses says of the store, and what looking at the disk leaves of its images.
use Rattle.std.proofs.Common.{◌≡◌, refl, sym, ◌∙◌, ap, subst, ℕ, ◌+◌, ◌≤◌, ◌<◌, List, [], ◌∷◌, ◌++◌, length, IsTrue, IsSome, Contains, Option, Some, None, inl, inr, ⊎_elim, ◌⊎◌}
use Rattle.disk_model.specs.declared.disk_file.DiskFile.TheVariants.{One, Two}
use Rattle.disk_model.specs.Store.{Store}
use Rattle.disk_model.specs.View.{View, SameFile}
use Rattle.image_format.specs.declared.fields.Fields.{Fields}
use Rattle.image_format.specs.Image.{Image}
use Rattle.image_chain.specs.ChainView.{ChainView}
use Rattle.image_chain.specs.declared.chain.Current.{Current}
use Rattle.image_chain.specs.Append.{Keeps, header_of}
use Rattle.image_chain.specs.Lists.{Lists}
use Rattle.image_chain.specs.Looking.{OnlyLooked}
use Rattle.image_chain.specs.Memory.{Joined}
use Rattle.image_chain.specs.Records.{Found}
use Rattle.coalesce.specs.Join.{IsContent}
use Rattle.recovery.specs.declared.shape.Shape.{Shape}
use Rattle.recovery.specs.declared.fault.RecoverFault.{RecoverFault}
use Rattle.recovery.specs.declared.fault.RecoverFault.TheVariants as recovery
use Rattle.recovery.specs.Fit as fit
use Rattle.recovery.specs.Recovery as recovers
use Rattle.run_images.specs.Compiled.{CompiledView, cells_in}
use Rattle.ckpt_runner.specs.declared.how.Mode.TheVariants.{Run, Restart}
use Rattle.ckpt_runner.specs.declared.started.OpenFault.TheVariants.{Occupied, Behind}
use Rattle.ckpt_runner.specs.Faults.{of_recovery}
use Rattle.ckpt_runner.specs.Opening.{Given, HasChain, Refuses}
use Rattle.ckpt_runner.specs.Unfit.{Fits, ListsOnly, ListsPast, IsUnfitField, IsUnfit}

-- ---- the chain that is found

abbrev pub found_as : Current → List Image → Found
found_as chain rs = record { file = chain.file; header = header_of chain; records = rs }

pub none_some : (x : Option Fields) (f : Fields) → x ≡ None → x ≡ Some f → ⊥
none_some x f none some = cc

pub has_chain : (chain : Current) (rs : List Image) (c : Store) (newest : Fields) → Keeps chain rs → Lists chain rs c → chain.newest ≡ Some newest → HasChain c (found_as chain rs) newest
has_chain chain [] c newest keeps lists is = absurd (none_some chain.newest newest keeps.newest is)
has_chain chain (r ∷ rs) c newest keeps lists is = record { chain = lists; newest_is = sym keeps.newest ∙ is }

-- the last of the records
last_record : (newest : Option Fields) (r : Image) (rs : List Image) → (before : List Image) × (last : Image) × (r ∷ rs ≡ before ++ last ∷ [])
last_record newest r [] = ([], r, refl)
last_record newest r (q ∷ rs) = let more = last_record newest q rs in (r ∷ more.0, more.1, ap (λ (l : List Image). r ∷ l) more.2)

ends : (chain : Current) (rs : List Image) (newest : Fields) → Keeps chain rs → chain.newest ≡ Some newest → (before : List Image) × (last : Image) × (rs ≡ before ++ last ∷ [])
ends chain [] newest keeps is = absurd (none_some chain.newest newest keeps.newest is)
ends chain (r ∷ rs) newest keeps is = last_record None r rs

-- ---- what is kept are the words of the records

pub only_listed : (cells : ℕ) (kept : Joined) (rs : List Image) → IsContent kept rs → fit.ListsOnly cells kept → ListsOnly cells rs
only_listed cells kept rs content only = λ c le. sym (content c) ∙ only c le

past_listed : (cells : ℕ) (kept : Joined) (rs : List Image) → IsContent kept rs → fit.ListsPast cells kept → ListsPast cells rs
past_listed cells kept rs content past = (past.0, past.1, subst (λ (o : Option ℕ). IsSome o) (content past.0) past.2)

-- ---- what a record is measured by

pub record IsShape (c : CompiledView) (taken written : ℕ) (s : Shape) : Type 0 where
  pub cells : s.cells ≡ cells_in c
  pub checkpoints : s.checkpoints.now ≡ c.checkpoints
  pub excludes : s.excludes ≡ c.directives
  pub input_length : s.input_length ≡ taken
  pub output_length : s.output_length ≡ written

-- the first field that does not fit, by what it is measured by
UnfitBy : ℕ → List ℕ → ℕ → ℕ → ℕ → Fields → Type 0
UnfitBy place nodes taken written directives f =
    ((place ≡ 69) × ¬ Contains nodes f.node)
    ⊎ (((place ≡ 81) × Contains nodes f.node × (taken < f.input_place))
    ⊎ (((place ≡ 89) × Contains nodes f.node × (f.input_place ≤ taken) × (written < f.output_length))
    ⊎ ((place ≡ 97) × Contains nodes f.node × (f.input_place ≤ taken) × (f.output_length ≤ written) × (directives < f.directive))))

unfit_field : (place : ℕ) (c : CompiledView) (taken written : ℕ) (s : Shape) (f : Fields) → IsShape c taken written s → fit.IsUnfitAt place s f → IsUnfitField place c taken written f
unfolding UnfitBy
unfit_field place c taken written s f is unfit =
    let a : UnfitBy place s.checkpoints.now s.input_length s.output_length s.excludes f = unfit in
    let b : UnfitBy place c.checkpoints s.input_length s.output_length s.excludes f = subst (λ (l : List ℕ). UnfitBy place l s.input_length s.output_length s.excludes f) is.checkpoints a in
    let d : UnfitBy place c.checkpoints taken s.output_length s.excludes f = subst (λ (k : ℕ). UnfitBy place c.checkpoints k s.output_length s.excludes f) is.input_length b in
    let e : UnfitBy place c.checkpoints taken written s.excludes f = subst (λ (k : ℕ). UnfitBy place c.checkpoints taken k s.excludes f) is.output_length d in
    let g : UnfitBy place c.checkpoints taken written c.directives f = subst (λ (k : ℕ). UnfitBy place c.checkpoints taken written k f) is.excludes e in
    g

unfit_place : (place : ℕ) (chain : ChainView) (kept : Joined) (rs : List Image) (c : CompiledView) (taken written : ℕ) (s : Shape) (f : Fields) → IsShape c taken written s → Keeps chain.current rs → IsContent kept rs → chain.current.newest ≡ Some f
    → fit.IsDamagedAt place chain kept s f → IsUnfit place c taken written (found_as chain.current rs) f
unfit_place place chain kept rs c taken written s f is keeps content newest damaged = ⊎_elim
    (λ past. inl (past_listed (cells_in c) kept rs content (subst (λ (k : ℕ). fit.ListsPast k kept) is.cells past.0), past.1))
    (λ field.
    let last = ends chain.current rs f keeps newest in
    inr (
      only_listed (cells_in c) kept rs content (subst (λ (k : ℕ). fit.ListsOnly k kept) is.cells field.0),
      (
        field.1.0,
        last.0,
        last.1,
        unfit_field field.1.0 c taken written s f is field.1.1,
        last.2,
        field.1.2 ∙ ap (λ (k : ℕ). k + field.1.0) (keeps.newest_at last.0 last.1 last.2),
      ),
    ))
    damaged

-- ---- why a chain is not recovered

pub recovery_refuses : (e : RecoverFault) (g : Given) (chain : ChainView) (kept : Joined) (s : Shape) (written : ℕ) → IsShape g.compiled (length g.input) written s → g.mode ≡ Restart
    → ((newest : Fields) × (chain.current.newest ≡ Some newest) × recovers.Refuses e chain kept s g.marks newest)
    → (rs : List Image) (c : Store) → Keeps chain.current rs → Lists chain.current rs c → IsContent kept rs → length c.output ≡ written → Refuses (of_recovery e) g c
recovery_refuses (recovery.OtherSource was given) g chain kept s written is mode why = λ rs c keeps lists content size.
    (found_as chain.current rs, why.0, has_chain chain.current rs c why.0 keeps lists why.1, mode, why.2.0, why.2.1, why.2.2)
recovery_refuses (recovery.OtherInput was given) g chain kept s written is mode why = λ rs c keeps lists content size.
    (found_as chain.current rs, why.0, has_chain chain.current rs c why.0 keeps lists why.1, mode, why.2.0, why.2.1, why.2.2, why.2.3)
recovery_refuses (recovery.Damaged file place) g chain kept s written is mode why = λ rs c keeps lists content size.
    inr (
      found_as chain.current rs,
      why.0,
      has_chain chain.current rs c why.0 keeps lists why.1,
      mode,
      why.2.0,
      why.2.1,
      unfit_place place chain kept rs g.compiled (length g.input) (length c.output) s why.0
          (subst (λ (k : ℕ). IsShape g.compiled (length g.input) k s) (sym size) is) keeps content why.1 why.2.2,
    )

-- what is accepted, and that the bound is below it
pub behind_refuses : (g : Given) (chain : ChainView) (kept : Joined) (s : Shape) (written : ℕ) (newest : Fields) → IsShape g.compiled (length g.input) written s → g.mode ≡ Restart → chain.current.newest ≡ Some newest
    → recovers.Accepts kept s g.marks newest → g.until < newest.steps
    → (rs : List Image) (c : Store) → Keeps chain.current rs → Lists chain.current rs c → IsContent kept rs → length c.output ≡ written → Refuses (Behind g.until newest.steps) g c
behind_refuses g chain kept s written newest is mode newest_is accepts below = λ rs c keeps lists content size.
    let by = subst (λ (k : ℕ). IsShape g.compiled (length g.input) k s) (sym size) is in (
      found_as chain.current rs,
      newest,
      record {
        has = has_chain chain.current rs c newest keeps lists newest_is;
        mode = mode;
        same = accepts.same;
        fits = shape_fits g.compiled (length g.input) (length c.output) kept s rs newest (found_as chain.current rs) refl by content accepts.cells accepts.fields;
      },
      refl,
      refl,
      below,
    )
  where
    shape_fits : (c : CompiledView) (taken written : ℕ) (kept : Joined) (s : Shape) (rs : List Image) (f : Fields) (found : Found) → found.records ≡ rs → IsShape c taken written s → IsContent kept rs → fit.ListsOnly s.cells kept → fit.Fits s f → Fits c taken written found f
    shape_fits c taken written kept s rs f found same is content only fits = record {
      cells = subst (λ (l : List Image). ListsOnly (cells_in c) l) (sym same) (only_listed (cells_in c) kept rs content (subst (λ (k : ℕ). fit.ListsOnly k kept) is.cells only));
      node = subst (λ (l : List ℕ). Contains l f.node) is.checkpoints fits.node;
      input_place = subst (λ (k : ℕ). f.input_place ≤ k) is.input_length fits.input_place;
      output_length = subst (λ (k : ℕ). f.output_length ≤ k) is.output_length fits.output_length;
      directive = subst (λ (k : ℕ). f.directive ≤ k) is.excludes fits.directive;
    }

-- ---- a call that only looks

pub looked_images : (u v : View) → IsTrue u.tells → OnlyLooked u v → SameFile One u v × SameFile Two u v
looked_images u v told looks = (
  record { seen = ap (λ (s : Store). s.one) (looks.seen told); only = λ c left. (c, (looks.crash told c).0 left, refl); still = λ c left. (c, (looks.crash told c).1 left, refl) },
  record { seen = ap (λ (s : Store). s.two) (looks.seen told); only = λ c left. (c, (looks.crash told c).0 left, refl); still = λ c left. (c, (looks.crash told c).1 left, refl) },
)

pub occupied_refuses : (g : Given) (chain : Current) (rs : List Image) (c : Store) (newest : Fields) → g.mode ≡ Run → Keeps chain rs → Lists chain rs c → chain.newest ≡ Some newest → Refuses (Occupied newest.number newest.steps) g c
occupied_refuses g chain rs c newest mode keeps lists is = (found_as chain rs, newest, has_chain chain rs c newest keeps lists is, mode, refl, refl)
