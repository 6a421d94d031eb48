-- Words that are said of a program.
use Rattle.std.proofs.Common.{◌≡◌, ℕ, zero, suc, ◌+◌, ◌-◌, ◌<◌, ◌≤◌, List, [], ◌∷◌, ◌++◌, length, map, drop, get_or, Some, slice_get, refl, sym, ap, ◌∙◌, subst, arith}
use Rattle.std.specs.Prelude.{codes, option_map}
use Rattle.std.specs.List.{AllByRecursion}
use Rattle.std.proofs.lemmas.List.{append-nil, append_assoc, length-append, length-map, get_or-map}
use Rattle.std.proofs.lemmas.Option.{none-some, same_Some, slice_get-map, slice_get-get_or}
use lib.Seq.{drop-cons}
use Rattle.pat_words_spec.specs.Words.{Word}
use Rattle.pat_semantics_spec.specs.Programs as core
use Rattle.pat_semantics_spec.specs.WellFormed.{InterfaceFits, WellFormed}
use Rattle.pat_core.specs.declared.program.TagDecl.{TagDecl}
use Rattle.pat_core.specs.declared.program.Interface.{Interface}
use Rattle.pat_core.specs.declared.program.Program.{Program}
use Rattle.pat_core.specs.Views.{tag_view, interface_view, program_view}
use Rattle.pat_types.specs.Views.{RightForm}
use Rattle.pat_derivation_text_spec.specs.DerivationText.{interface_name}
use Rattle.pat_print.specs.patterns.PatternText.{tag_names}
use Rattle.pat_typecheck.specs.Words.{times_words, tags_words, one_or, word_words, right_words, refuted_words}

-- ---- a name so many times

times_here : (text x : List ℕ) (n : ℕ) → 0 < n → ((text ++ 32 ∷ []) ++ x) ++ times_words (n - 1) x ≡ text ++ times_words n x
times_here text x zero some = absurd (omega (arith, some))
times_here text x (suc n) some =
    let one : suc n - 1 ≡ n = omega arith in
    ap (λ m. ((text ++ 32 ∷ []) ++ x) ++ times_words m x) one
    ∙ append_assoc (text ++ 32 ∷ []) x (times_words n x)
    ∙ append_assoc text (32 ∷ []) (x ++ times_words n x)

pub times_step : (old spaced new x all : List ℕ) (n : ℕ) → 0 < n → spaced ≡ old ++ 32 ∷ [] → new ≡ spaced ++ x → old ++ times_words n x ≡ all → new ++ times_words (n - 1) x ≡ all
times_step old spaced new x all n some s t was =
    ap (λ l. l ++ times_words (n - 1) x) (t ∙ ap (λ l. l ++ x) s) ∙ times_here old x n some ∙ was

-- ---- the tags of a word

abbrev pub names_of : List TagDecl → List (List ℕ)
names_of tags = map (λ (t : TagDecl). t.name) tags

pub tags_step : (tags : List TagDecl) (w : Word) (i : ℕ) (d : TagDecl) (old new all : List ℕ) → i < length tags → new ≡ old ++ times_words (w i) (get_or tags i d).name → old ++ tags_words (names_of (drop i tags)) i w ≡ all → new ++ tags_words (names_of (drop (i + 1) tags)) (i + 1) w ≡ all
tags_step tags w i d old new all within is was =
    let next : i + 1 ≡ suc i = omega arith in
    ap (λ j. new ++ tags_words (names_of (drop j tags)) j w) next
    ∙ ap (λ l. l ++ tags_words (names_of (drop (suc i) tags)) (suc i) w) is
    ∙ append_assoc old (times_words (w i) (get_or tags i d).name) (tags_words (names_of (drop (suc i) tags)) (suc i) w)
    ∙ ap (λ l. old ++ tags_words (names_of l) i w) (sym (drop-cons tags i d within))
    ∙ was

-- ---- 1 for the empty word

-- a text that is as long as before has nothing more
nothing_more : (old more : List ℕ) → length (old ++ more) ≡ length old → more ≡ []
nothing_more old [] long = refl
nothing_more old (b ∷ bs) long =
    let both = length-append old (b ∷ bs) in
    absurd (omega (arith, both, long))

pub said_one : (old new last words : List ℕ) → new ≡ old ++ words → length new ≡ length old → last ≡ new ++ codes " 1" → last ≡ old ++ one_or words
said_one old new last words is long end =
    let none : words ≡ [] = nothing_more old words (ap length (sym is) ∙ long) in
    end
    ∙ ap (λ l. l ++ codes " 1") (is ∙ ap (λ ws. old ++ ws) none ∙ append-nil old)
    ∙ ap (λ ws. old ++ one_or ws) (sym none)

some_said : (old words : List ℕ) → (length (old ++ words) ≡ length old → ⊥) → old ++ words ≡ old ++ one_or words
some_said old [] other = absurd (other (ap length (append-nil old)))
some_said old (b ∷ bs) other = refl

pub said_tags : (old new words : List ℕ) → new ≡ old ++ words → (length new ≡ length old → ⊥) → new ≡ old ++ one_or words
said_tags old new words is other = is ∙ some_said old words (λ e. other (ap length is ∙ e))

-- ---- an interface

all_there : {A : Type 0} (P : A → Type 0) (xs : List A) (n : ℕ) (x : A) → AllByRecursion P xs → slice_get xs n ≡ Some x → P x
all_there P [] n x all h = absurd (none-some x h)
all_there P (y ∷ ys) zero x all h = subst P (same_Some y x h) all.0
all_there P (y ∷ ys) (suc n) x all h = all_there P ys n x all.1 h

pub few_tags : (p : Program) (n : ℕ) (d : Interface) → WellFormed (program_view p) → n < length p.interfaces → length (get_or p.interfaces n d).tags ≤ 32
few_tags p n d well within =
    let own = get_or p.interfaces n d in
    let at : slice_get (map interface_view p.interfaces) n ≡ Some (interface_view own) = slice_get-map interface_view p.interfaces n ∙ ap (option_map interface_view) (slice_get-get_or p.interfaces n d within) in
    let fits : InterfaceFits (program_view p) (interface_view own) = all_there (InterfaceFits (program_view p)) (map interface_view p.interfaces) n (interface_view own) well.interfaces at in
    let few = fits.few in
    let long = length-map own.tags tag_view in
    omega (arith, few, long)

pub name_at : (p : Program) (n : ℕ) (d : Interface) → n < length p.interfaces → (get_or p.interfaces n d).name ≡ interface_name (program_view p) n
name_at p n d within =
    let long = length-map p.interfaces interface_view in
    sym
    (get_or-map (λ (i : core.Interface). i.name) (map interface_view p.interfaces) n (interface_view d) [] (omega (arith, within, long))
    ∙ ap (λ (i : core.Interface). i.name) (get_or-map interface_view p.interfaces n d (interface_view d) within))

-- ---- a word and a right side

names_are : (tags : List TagDecl) → names_of tags ≡ map (λ (t : core.TagDecl). t.name) (map tag_view tags)
names_are [] = refl
names_are (t ∷ ts) = ap (λ l. t.name ∷ l) (names_are ts)

pub words_said : (i : Interface) (w : Word) (f : RightForm) (tags : List TagDecl) (t0 t1 t2 : List ℕ) → tags ≡ i.tags → t0 ≡ codes ": word" → t1 ≡ t0 ++ word_words (names_of tags) w → t2 ≡ t1 ++ right_words (tag_names (interface_view i)) f → t2 ≡ refuted_words (tag_names (interface_view i)) w f
words_said i w f tags t0 t1 t2 own first second third =
    let names : names_of tags ≡ tag_names (interface_view i) = ap names_of own ∙ names_are i.tags in
    third
    ∙ ap (λ l. l ++ right_words (tag_names (interface_view i)) f)
    (second ∙ ap (λ l. l ++ word_words (names_of tags) w) first ∙ ap (λ ns. codes ": word" ++ word_words ns w) names)
    ∙ append_assoc (codes ": word") (word_words (tag_names (interface_view i)) w) (right_words (tag_names (interface_view i)) f)
