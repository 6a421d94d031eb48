-- The type that was read last.
use Rattle.std.proofs.Common.{◌≡◌, ℕ, ◌+◌, ◌-◌, List, [], ◌∷◌, ◌++◌, length, slice_get, refl, sym, ap, ◌∙◌, arith}
use Rattle.std.specs.Prelude.{Option, Some, None, Ok, option_map}
use Rattle.std.specs.Borrow.{Bor}
use Rattle.std.proofs.lemmas.List.{length-append, length-map, map_push}
use Rattle.std.proofs.lemmas.Option.{slice_get-map}
use Rattle.pat_semantics_spec.specs.Programs.{Program}
use Rattle.pat_type_system_spec.specs.Types.{MailboxType}
use Rattle.pat_types.specs.declared.types.MailboxType.{MailboxType as CodeType}
use Rattle.pat_types.specs.Views.{type_view, need_view, needs_view}
use Rattle.pat_derivation_text_spec.specs.LineReading.{read_used}
use Rattle.pat_derivation_lines.specs.Needs.{Needs, typed, IsLast, Adds}

at_end : {A : Type 0} (xs : List A) (x : A) → slice_get (xs ++ x ∷ []) (length xs) ≡ Some x
at_end [] x = refl
at_end (y ∷ ys) x = at_end ys x

item_of : {A : Type 0} → A → Option A → A
item_of x None = x
item_of x (Some y) = y

same_item : {A : Type 0} (x y : A) → Some x ≡ Some y → x ≡ y
unfolding item_of
same_item x y e = ap (item_of x) e

-- no type was read
pub none_last : (p : Program) (text : List ℕ) → IsLast p [] text
none_last p text n e = absurd cc

-- one was
pub is_last : (p : Program) (needs more : Needs) (n : ℕ × MailboxType) (text : List ℕ) → more ≡ needs ++ n ∷ [] → read_used p text ≡ Some n.1 → IsLast p more text
is_last p needs more n text grown read m e =
    let place : length more - 1 ≡ length needs = let long : length more ≡ length needs + 1 = ap length grown ∙ length-append needs (n ∷ []) in omega (arith, long) in
    let there : slice_get more (length more - 1) ≡ Some n = ap (slice_get more) place ∙ ap (λ l. slice_get l (length needs)) grown ∙ at_end needs n in
    let same : n ≡ m = same_item n m (sym there ∙ e) in
    read ∙ ap (λ k. Some k.1) same

-- the same text is read again
pub read_again : (p : Program) (needs : List (ℕ × CodeType)) (text last : List ℕ) (n : ℕ × CodeType) (copy : CodeType) → Some n ≡ slice_get needs (length needs - 1) → IsLast p (needs_view needs) last → text ≡ last → type_view copy ≡ type_view n.1 → read_used p text ≡ Some (type_view copy)
read_again p needs text last n copy there is_last same copied =
    let place : length (needs_view needs) - 1 ≡ length needs - 1 = ap (λ (k : ℕ). k - 1) (length-map needs need_view) in
    let seen : slice_get (needs_view needs) (length (needs_view needs) - 1) ≡ Some (need_view n) =
    ap (slice_get (needs_view needs)) place ∙ slice_get-map need_view needs (length needs - 1) ∙ ap (option_map need_view) (sym there) in
    ap (read_used p) same ∙ is_last (need_view n) seen ∙ ap Some (sym copied)

-- a variable more
pub one_more : (p : Program) (named : Option (ℕ × Bor (List ℕ))) (x : ℕ) (text : Bor (List ℕ)) (of : CodeType) (needs new : List (ℕ × CodeType)) → named ≡ Some (x, text) → read_used p text.now ≡ Some (type_view of) → new ≡ needs ++ (x, of) ∷ [] → Adds p (typed p named) (needs_view needs) (needs_view new) (Ok text)
one_more p named x text of needs new same read grown =
    ((x, type_view of), ap (typed p) same ∙ ap (option_map (λ a. (x, a))) read, ap needs_view grown ∙ map_push need_view needs (x, of), read)
