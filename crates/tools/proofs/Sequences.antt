-- The law over the commands of a session, one command after the other.
use Rattle.std.proofs.Common.{◌≡◌, ℕ, zero, suc, ◌+◌, ◌*◌, ◌<◌, Bool, true, false, cond, eqb, List, [], ◌∷◌, ◌++◌, length, get_or, take, drop, set, mul-zero, mul-suc, Some, None, sym, refl, ap, ◌∙◌, subst, add-one, arith}
use Rattle.std.proofs.lemmas.List.{drop-drop, length_push, length-take-le, take_more_set}
use Rattle.port.specs.Book.{Event, book}
use Rattle.port.specs.Legal.{Legal}
use Rattle.port.specs.Runs.{Served}
use Rattle.port.specs.State.{State}
use Rattle.port.specs.Answers.{Answer, Clocked, Refused}
use Rattle.port.specs.declared.numbers.Numbers.{Numbers}
use Rattle.port.proofs.Laws.{served_more}
use Rattle.std.specs.Simd.{first_chunks}
use Rattle.files.specs.Bytes.{bytes_at}
use Rattle.tools.specs.Calls.{Played, command_in}
use Rattle.files.specs.Fields.{command_record, command_fields_in}
use Rattle.tools.specs.Plays.{AllRightly, Rightly, SessionRan, after_command, after_commands, commands_in}
use Rattle.files.specs.declared.records.CommandFields.{CommandFields}

length_commands : (xs : List ℕ) (n : ℕ) → length (commands_in xs n) ≡ n
length_commands xs zero = refl
length_commands xs (suc i) = length_push (commands_in xs i) (command_record (bytes_at xs (16 * i) 16)) ∙ omega (arith, length_commands xs i)

rightly : (n : Numbers) (σ : State) (f : CommandFields) (b : Answer) (τ : State) → Played n σ f b τ → Rightly n σ f b
rightly n σ f (Refused r) τ played = played.0
rightly n σ f (Clocked a x) τ played = played.0

after_push : (w : ℕ) (fs : List CommandFields) (bs : List Answer) (f : CommandFields) (b : Answer) (h : List Event) → length fs ≡ length bs →
    after_commands w (fs ++ (f ∷ [])) (bs ++ (b ∷ [])) h ≡ after_command w f b (after_commands w fs bs h)
after_push w [] [] f b h same = refl
after_push w [] (c ∷ bs) f b h same = absurd (omega arith)
after_push w (e ∷ fs) [] f b h same = absurd (omega arith)
after_push w (e ∷ fs) (c ∷ bs) f b h same = after_push w fs bs f b (after_command w e c h) (omega arith)

rightly_push : (n : Numbers) (image : List ℕ) (fs : List CommandFields) (bs : List Answer) (f : CommandFields) (b : Answer) (h : List Event) → length fs ≡ length bs →
    AllRightly n image fs bs h → Rightly n (book n.width image (after_commands n.width fs bs h)) f b → AllRightly n image (fs ++ (f ∷ [])) (bs ++ (b ∷ [])) h
rightly_push n image [] [] f b h same all one = (one, tt)
rightly_push n image [] (c ∷ bs) f b h same all one = absurd (omega arith)
rightly_push n image (e ∷ fs) [] f b h same all one = absurd (omega arith)
rightly_push n image (e ∷ fs) (c ∷ bs) f b h same all one =
    (all.0, rightly_push n image fs bs f b (after_command n.width e c h) (omega arith) all.1 one)

-- one command more in a served history
one_more : (n : Numbers) (image : List ℕ) (h : List Event) (τ : State) (f : CommandFields) (b : Answer) (υ : State) → Legal n τ → book n.width image h ≡ τ → Served n image h → Played n τ f b υ →
    Served n image (after_command n.width f b h) × (book n.width image (after_command n.width f b h) ≡ υ)
one_more n image h τ f (Refused r) υ legal is served played = (served, is ∙ sym played.1)
one_more n image h τ f (Clocked a x) υ legal is served played = served_more n image h τ (command_in n.width f) (Clocked a x) υ legal is served played.1

push : (n : Numbers) (σ : State) (fs : List CommandFields) (bs : List Answer) (τ : State) (f : CommandFields) (b : Answer) (υ : State) → length fs ≡ length bs → Legal n τ →
    SessionRan n σ fs bs τ → Played n τ f b υ → SessionRan n σ (fs ++ (f ∷ [])) (bs ++ (b ∷ [])) υ
push n σ fs bs τ f b υ same legal ran played image h is served =
    let so_far = ran image h is served in
    let k = after_commands n.width fs bs h in
    let more = after_push n.width fs bs f b h same in
    let one = one_more n image k τ f b υ legal so_far.1 so_far.0 played in (
      subst (Served n image) (sym more) one.0,
      ap (λ (g : List Event). book n.width image g) more ∙ one.1,
      rightly_push n image fs bs f b h same so_far.2 (subst (λ (ρ : State). Rightly n ρ f b) (sym so_far.1) (rightly n τ f b υ played)),
    )

pub none_ran : (n : Numbers) (σ : State) (bs : List Answer) → SessionRan n σ [] bs σ
none_ran n σ bs image h is served = (served, is, tt)

-- one turn of the loop over a session's commands
pub more_ran : (n : Numbers) (σ : State) (xs : List ℕ) (bs : List Answer) (i : ℕ) (τ : State) (b : Answer) (υ : State) → i < length bs → Legal n τ →
    SessionRan n σ (commands_in xs i) (take i bs) τ → Played n τ (command_record (bytes_at xs (16 * i) 16)) b υ →
    SessionRan n σ (commands_in xs (i + 1)) (take (i + 1) (set bs i b)) υ
more_ran n σ xs bs i τ b υ place legal ran played =
    let same : length (commands_in xs i) ≡ length (take i bs) = length_commands xs i ∙ sym (length-take-le i bs (omega arith)) in
    rw (take_more_set bs i b place, add-one i) (push n σ (commands_in xs i) (take i bs) τ (command_record (bytes_at xs (16 * i) 16)) b υ same legal ran played)

after_take : (w : ℕ) (fs : List CommandFields) (bs : List Answer) (h : List Event) → after_commands w fs (take (length fs) bs) h ≡ after_commands w fs bs h
after_take w [] bs h = refl
after_take w (f ∷ fs) [] h = refl
after_take w (f ∷ fs) (b ∷ bs) h = after_take w fs bs (after_command w f b h)

rightly_take : (n : Numbers) (image : List ℕ) (fs : List CommandFields) (bs : List Answer) (h : List Event) → AllRightly n image fs (take (length fs) bs) h → AllRightly n image fs bs h
rightly_take n image [] bs h all = tt
rightly_take n image (f ∷ fs) [] h all = all
rightly_take n image (f ∷ fs) (b ∷ bs) h all = (all.0, rightly_take n image fs bs (after_command n.width f b h) all.1)

-- the whole section
pub all_ran : (n : Numbers) (σ : State) (xs : List ℕ) (bs : List Answer) (i : ℕ) (τ : State) → SessionRan n σ (commands_in xs i) (take i bs) τ → SessionRan n σ (commands_in xs i) bs τ
all_ran n σ xs bs i τ ran image h is served =
    let fs = commands_in xs i in
    let long = length_commands xs i in
    let got = subst (λ j. Served n image (after_commands n.width fs (take j bs) h) × (book n.width image (after_commands n.width fs (take j bs) h) ≡ τ) × AllRightly n image fs (take j bs) h) (sym long) (ran image h is served) in
    let same = after_take n.width fs bs h in
    (subst (Served n image) same got.0, ap (λ (k : List Event). book n.width image k) (sym same) ∙ got.1, rightly_take n image fs bs h got.2)

-- one of the pieces of n into which a list is cut
pub chunk_at : (n k : ℕ) (xs : List ℕ) (i : ℕ) (d : List ℕ) → i < k → get_or (first_chunks n k xs) i d ≡ take n (drop (n * i) xs)
chunk_at n zero xs i d lt = absurd (omega arith)
chunk_at n (suc k) xs zero d lt = rw (mul-zero n) refl
chunk_at n (suc k) xs (suc i) d lt =
    let turn : n + n * i ≡ n * suc i = omega (arith, mul-suc n i) in
    chunk_at n k (drop n xs) i d (omega arith) ∙ ap (λ ys. take n ys) (drop-drop (n * i) n xs ∙ ap (λ j. drop j xs) turn)

-- the record that sixteen bytes carry
pub fields_are : (ys zs : List ℕ) (f : CommandFields) → ys ≡ zs → Some f ≡ command_fields_in ys → f ≡ command_record zs
fields_are ys zs f e found =
    let here : (t : Bool) → Some f ≡ cond t (Some (command_record ys)) None → f ≡ command_record ys =
    λ t. elim t as (λ s. Some f ≡ cond s (Some (command_record ys)) None → f ≡ command_record ys) [ true ↦ λ q. cc | false ↦ λ q. cc ] in
    here (eqb (length ys) 16) found ∙ ap command_record e
