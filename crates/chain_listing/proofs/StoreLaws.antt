-- What is listed of a store, and what a look leaves of it.
use Rattle.std.proofs.Common.{◌≡◌, refl, sym, ◌∙◌, ap, subst, ℕ, ◌≤◌, List, [], ◌∷◌, length, IsTrue, Option, None, Some, Result, Ok, Err, arith}
use Rattle.std.specs.Prelude.{IfSome}
use Rattle.disk_model.specs.Store.{Store, file_of}
use Rattle.disk_model.specs.View.{View, Steady}
use Rattle.image_format.specs.Image.{Image}
use Rattle.image_chain.specs.ChainView.{ChainView}
use Rattle.image_chain.specs.Append.{header_of, IsAtRest}
use Rattle.image_chain.specs.Lists.{Rests, found_of}
use Rattle.image_chain.specs.Looking.{IsDamage, OnlyLooked, RoseIfFailed}
use Rattle.image_chain.specs.Records.{chain_in}
use Rattle.image_chain.specs.Memory.{Joined}
use Rattle.image_chain.specs.Shown.{IsShown}
use Rattle.image_chain.specs.Walk.{IsOpened, opened_as}
use Rattle.image_chain.specs.declared.fault.ChainFault.{ChainFault}
use Rattle.image_chain.specs.declared.fault.ChainFault.TheVariants as chain
use Rattle.chain_listing.specs.Lines.{record_lines}
use Rattle.chain_listing.specs.Store.{Lists, IsUnlisted, IsUndamaged, CountsFault, of_chain}
use Rattle.chain_listing.specs.declared.fault.ListFault.{ListFault}
use Rattle.chain_listing.specs.declared.fault.ListFault.TheVariants.{Memory, Failed, Damaged}

-- ---- looks

pub looked_first : (v : View) → OnlyLooked v v
looked_first v = record { tells = refl; tells_past = refl; faults = omega arith; seen = λ t. refl; crash = λ t c. (λ l. l, λ l. l); later = λ p. omega arith; past = λ p t c le. (λ l. l, λ l. l) }

pub looked_twice : (a b c : View) → OnlyLooked a b → OnlyLooked b c → OnlyLooked a c
looked_twice a b c first second = record {
  tells = second.tells ∙ first.tells;
  tells_past = second.tells_past ∙ first.tells_past;
  faults = let x = first.faults in let y = second.faults in omega (arith, x, y);
  seen = λ t. second.seen (h t) ∙ first.seen t;
  crash = λ t s. (λ left. (first.crash t s).0 ((second.crash (h t) s).0 left), λ left. (second.crash (h t) s).1 ((first.crash t s).1 left));
  later = λ p. let x = first.later p in let y = second.later (q p) in omega (arith, x, y);
  past = λ p t s le.
      let x = first.later p in
      let there : t ≤ b.moment = omega (arith, le, x) in
      (λ left. (first.past p t s le).0 ((second.past (q p) t s there).0 left), λ left. (second.past (q p) t s there).1 ((first.past p t s le).1 left));
}
  where
    h : IsTrue a.tells → IsTrue b.tells
    h t = subst IsTrue (sym first.tells) t

    q : IsTrue a.tells_past → IsTrue b.tells_past
    q p = subst IsTrue (sym first.tells_past) p

-- a chain that rests still rests
pub rests_looked : (c : ChainView) (v w : View) (rs : List Image) → IsTrue v.tells → OnlyLooked v w → Rests c v rs → Rests c w rs
rests_looked c v w rs t look r =
    let a = r.1.1 in
    let still : IsAtRest c.current w rs r.1.0 = record {
      keeps = a.keeps;
      alone = record { image_file = a.alone.image_file; aside = λ s left. a.alone.aside s ((look.crash t s).0 left) };
      gate = a.gate;
      closed = a.closed;
      reads = ap (file_of c.current.file) (look.seen t) ∙ a.reads;
      left = λ s left. a.left s ((look.crash t s).0 left);
    } in
    (r.0, (r.1.0, still))

pub steady_looked : (a b c : View) → Steady a b → OnlyLooked b c → Steady a c
steady_looked a b c first second = record { tells = second.tells ∙ first.tells; tells_past = second.tells_past ∙ first.tells_past; faults = let x = first.faults in let y = second.faults in omega (arith, x, y) }

-- ---- faults

pub undamaged : (e : ListFault) (f : ChainFault) (r : Image) (room : List ℕ) → e ≡ of_chain f → IsShown (Err f) r room → IsUndamaged e
undamaged e chain.Failed r room is shown = subst IsUndamaged (sym is) tt
undamaged e (chain.Damaged file place) r room is shown = absurd shown

pub counted : (e : ListFault) (f : ChainFault) (old new : ℕ) → e ≡ of_chain f → RoseIfFailed f old new → CountsFault e old new
counted e chain.Failed old new is rose = subst (λ (x : ListFault). CountsFault x old new) (sym is) rose
counted e (chain.Damaged file place) old new is same = subst (λ (x : ListFault). CountsFault x old new) (sym is) same

pub unlisted : (e : ListFault) (f : ChainFault) (s : Store) → e ≡ of_chain f → IsDamage f (chain_in s) → IsUnlisted e s
unlisted e chain.Failed s is damage = subst (λ (x : ListFault). IsUnlisted x s) (sym is) tt
unlisted e (chain.Damaged file place) s is damage = subst (λ (x : ListFault). IsUnlisted x s) (sym is) damage

pub unlisted_undamaged : (e : ListFault) (s : Store) → IsUndamaged e → IsUnlisted e s
unlisted_undamaged Memory s well = tt
unlisted_undamaged Failed s well = tt
unlisted_undamaged (Damaged file place) s well = absurd well

-- the count goes on from where it stood
pub counted_after : (e : ListFault) (old mid new : ℕ) → mid ≡ old → CountsFault e mid new → CountsFault e old new
counted_after e old mid new same counts = subst (λ (n : ℕ). CountsFault e n new) same counts

-- ---- the text

pub listed_chain : (c : ChainView) (v : View) (rs : List Image) (s : Store) (text : List ℕ) → 1 ≤ c.current.count → Rests c v rs → chain_in s ≡ Ok (found_of c.current.file (header_of c.current) rs) → text ≡ record_lines rs → Lists s text
listed_chain c v [] s text some rests found is = let k = rests.1.1.keeps.count in absurd (omega (arith, k, some))
listed_chain c v (r ∷ rs) s text some rests found is = (Some (record { file = c.current.file; header = header_of c.current; records = r ∷ rs }), found, is)

-- what was opened: the records of a chain, or none
abbrev pub Opened : Option ChainView → Joined → Store → View → Type 0
Opened found kept s v = (rs : List Image) × (chain_in s ≡ Ok (opened_as found rs)) × IsOpened found kept rs v

pub opened_rests : (found : Option ChainView) (c : ChainView) (kept : Joined) (s : Store) (v : View) → found ≡ Some c → Opened found kept s v → (rs : List Image) × Rests c v rs
opened_rests None c kept s v is opened = absurd (cc is)
opened_rests (Some d) c kept s v is opened = let same : d ≡ c = cc is in (opened.0, subst (λ (x : ChainView). Rests x v opened.0) same opened.2.0)

pub some_count : (found : Option ChainView) (c : ChainView) → IfSome found (λ x. 1 ≤ x.current.count) → found ≡ Some c → 1 ≤ c.current.count
some_count None c some is = absurd (cc is)
some_count (Some d) c some is = let same : d ≡ c = cc is in subst (λ (x : ChainView). 1 ≤ x.current.count) same some

pub opened_listed : (found : Option ChainView) (c : ChainView) (kept : Joined) (s : Store) (v : View) (text : List ℕ) → found ≡ Some c → 1 ≤ c.current.count → Opened found kept s v → ((rs : List Image) → Rests c v rs → text ≡ record_lines rs) → Lists s text
opened_listed None c kept s v text is some opened lines = absurd (cc is)
opened_listed (Some d) c kept s v text is some opened lines =
    let same : d ≡ c = cc is in
    let rests = subst (λ (x : ChainView). Rests x v opened.0) same opened.2.0 in
    let there = subst (λ (x : ChainView). chain_in s ≡ Ok (found_of x.current.file (header_of x.current) opened.0)) same opened.1 in
    listed_chain c v opened.0 s text some rests there (lines opened.0 rests)
