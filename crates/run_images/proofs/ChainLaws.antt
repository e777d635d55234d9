-- A chain that stands, and what each of its calls leaves: a store that stands, with no image lost.
use Rattle.std.proofs.Common.{◌≡◌, refl, sym, ◌∙◌, ℕ, true, false, inl, inr, ◌⊎◌, ⊎_elim, List, [], ◌∷◌, ◌++◌, None}
use Rattle.disk_model.specs.declared.disk_file.DiskFile.{DiskFile}
use Rattle.disk_model.specs.Store.{Store, file_of}
use Rattle.image_format.specs.declared.header.Header.{Header}
use Rattle.image_format.specs.Image.{Image}
use Rattle.image_chain.specs.declared.chain.Current.{Current}
use Rattle.image_chain.specs.Append.{header_of, other}
use Rattle.image_chain.specs.Lists.{Lists, IsKept, IsAppended}
use Rattle.image_chain.specs.Records.{broken_field, newest_of}
use Rattle.image_chain.specs.Replace.{next_header, IsNotOpen, IsAsideOrShut, ListsJoined, OnlyOther, IsReplaced}
use Rattle.coalesce.specs.Join.{Joins}
use Rattle.run_images.specs.Source.{Source}
use Rattle.run_images.specs.Stands.{StandsWithin, StandWith, ChainStands}
use Rattle.image_chain.specs.Files.{IsOpenIn}
use Rattle.run_images.specs.Later.{IsLater}
use Rattle.run_images.proofs.Outcomes.{IsListedIn, IsJoinedIn}
use Rattle.run_images.proofs.ListedLaws.{listed_stand}
use Rattle.run_images.proofs.JoinedLaws.{joined_record_stands}
use Rattle.run_images.proofs.AppendLaws.{none_ahead, append_stands}
use Rattle.run_images.proofs.LaterLaws.{listed_later, appended_later, joined_later}

-- a file without an open gate is not open
shut : (f : DiskFile) (c : Store) → IsNotOpen f (file_of f c) → (k : Header) → IsOpenIn f k c → ⊥
shut f c closed k a = absurd (let z : false ≡ true = sym (closed k a.header) ∙ a.gate in cc)

aside_or_shut : (chain : Current) (old new : Store) → IsAsideOrShut chain old new → (file_of (other chain.file) new ≡ file_of (other chain.file) old) ⊎ ((k : Header) → IsOpenIn (other chain.file) k new → ⊥)
aside_or_shut chain old new (inl same) = inl same
aside_or_shut chain old new (inr closed) = inr (shut (other chain.file) new closed)

joined_in : (chain : Current) (rs : List Image) (r : Image) (old new : Store) → Lists chain rs old → ListsJoined chain r new → OnlyOther chain old new → IsJoinedIn chain.file (header_of chain) (next_header chain) rs r old new
joined_in chain rs r old new was now only = record { was = was; lists = now; every = refl; current = only.current; output = only.output }

-- ---- standing

module _ (s : Source) (n : ℕ) (bytes : List ℕ) (chain : Current) (rs : List Image) (old new : Store) (at : ChainStands s n bytes chain rs old) where
  listed : IsListedIn chain.file (header_of chain) rs old new → StandsWithin s n new
  listed = listed_stand s n bytes chain.file (header_of chain) rs old new at.stands at.output at.records (none_ahead s n chain.file (header_of chain) rs old at.stands at.lists)

  pub kept_stands_on : IsKept chain rs old new → StandsWithin s n new
  kept_stands_on kept = listed (record { lists = kept.0; aside = inl kept.1.aside; output = kept.1.output })

  pub appended_stands : (r : Image) → broken_field (newest_of None rs) r.fields ≡ None → StandWith s chain.every n bytes (rs ++ r ∷ []) → IsAppended chain rs r old new → StandsWithin s n new
  appended_stands r follows more appended =
      append_stands s n bytes chain.file (header_of chain) rs r old new at.image_file at.stands at.output at.lists follows at.records more
      (⊎_elim (λ a. inl (record { lists = a; aside = inl appended.1.aside; output = appended.1.output })) (λ b. inr (record { lists = b; aside = inl appended.1.aside; output = appended.1.output })) appended.0)

  pub replaced_stands : (r : Image) → Joins rs r → IsReplaced chain rs r old new → StandsWithin s n new
  replaced_stands r joins replaced =
      ⊎_elim (λ a. listed (record { lists = a.0; aside = aside_or_shut chain old new a.1; output = replaced.1.output }))
      (λ b. joined_record_stands s n chain.file (header_of chain) (next_header chain) rs r old new at.stands joins (joined_in chain rs r old new at.lists b replaced.1)) replaced.0

-- ---- the newest image

module _ (j : ℕ) (chain : Current) (rs : List Image) (old new : Store) (later : IsLater j old) (was : Lists chain rs old) where
  pub kept_later : IsKept chain rs old new → IsLater j new
  kept_later kept = listed_later j chain.file (header_of chain) rs old new later was kept.0

  pub append_later : (r : Image) → broken_field (newest_of None rs) r.fields ≡ None → IsAppended chain rs r old new → IsLater j new
  append_later r follows appended =
      ⊎_elim (λ a. listed_later j chain.file (header_of chain) rs old new later was a) (λ b. appended_later j chain.file (header_of chain) rs r old new later was follows b) appended.0

  pub replaced_later : (r : Image) → Joins rs r → IsReplaced chain rs r old new → IsLater j new
  replaced_later r joins replaced =
      ⊎_elim (λ a. listed_later j chain.file (header_of chain) rs old new later was a.0)
      (λ b. joined_later j chain.file (header_of chain) (next_header chain) rs r old new later joins (joined_in chain rs r old new was b replaced.1)) replaced.0
