-- Many lists in one place.
use Rattle.std.proofs.Common.{◌≡◌, ℕ, zero, suc, ◌+◌, ◌≤◌, ⊎_elim, Bool, true, false, List, [], ◌∷◌, ◌++◌, map, length, length-append, get_or, set, replicate, refl, sym, ap, ap₂, ◌∙◌, subst, arith}
use Rattle.std.specs.Prelude.{nat_le, if◌then◌else◌}
use Rattle.std.proofs.lemmas.Bool.{cases_eq, cases_lt}
use Rattle.std.proofs.lemmas.List.{get_or-set_same, get_or-set_other, get_or_append_left, get_or_at, get_or_past, length-map, map-set, set_past}
use Rattle.pat_grid_points.specs.Chains.{chain, chains, AreChains, noted, from_on}
use Rattle.pat_grid_points.proofs.Digits.{zero_at}

-- no more is asked than there is
chain_same : (links : List (ℕ × ℕ)) → ((p : ℕ) → (get_or links p (0, 0)).1 ≤ p) → (f h n : ℕ) → n ≤ f → n ≤ h → chain f links n ≡ chain h links n
chain_same links down zero zero n l m = refl
chain_same links down zero (suc h) zero l m = refl
chain_same links down zero (suc h) (suc p) l m = absurd (omega arith)
chain_same links down (suc f) zero zero l m = refl
chain_same links down (suc f) zero (suc p) l m = absurd (omega arith)
chain_same links down (suc f) (suc h) zero l m = refl
chain_same links down (suc f) (suc h) (suc p) l m =
    let d = down p in
    ap (λ xs. (get_or links p (0, 0)).0 ∷ xs) (chain_same links down f h (get_or links p (0, 0)).1 (omega arith) (omega arith))

-- a link at the end is none of theirs
chain_pushed : (links : List (ℕ × ℕ)) (x : ℕ × ℕ) → ((p : ℕ) → (get_or links p (0, 0)).1 ≤ p) → (f n : ℕ) → n ≤ length links → chain f (links ++ (x ∷ [])) n ≡ chain f links n
chain_pushed links x down zero n l = refl
chain_pushed links x down (suc f) zero l = refl
chain_pushed links x down (suc f) (suc p) l =
    let d = down p in
    let e = get_or_append_left links (x ∷ []) (0, 0) p (omega arith) in
    ap (λ q. q.0 ∷ chain f (links ++ (x ∷ [])) q.1) e
    ∙ ap (λ xs. (get_or links p (0, 0)).0 ∷ xs) (chain_pushed links x down f (get_or links p (0, 0)).1 (omega arith))

maps_same : (f g : ℕ → List ℕ) (xs : List ℕ) (n : ℕ) → ((a : ℕ) → get_or xs a 0 ≤ n) → ((m : ℕ) → m ≤ n → f m ≡ g m) → map f xs ≡ map g xs
maps_same f g [] n l h = refl
maps_same f g (x ∷ xs) n l h = ap₂ (λ y ys. y ∷ ys) (h x (l 0)) (maps_same f g xs n (λ a. l (suc a)) h)

map_at : (f : ℕ → List ℕ) (xs : List ℕ) (a : ℕ) → f 0 ≡ [] → get_or (map f xs) a [] ≡ f (get_or xs a 0)
map_at f [] a e = sym e
map_at f (x ∷ xs) zero e = refl
map_at f (x ∷ xs) (suc a) e = map_at f xs a e

pub none_linked : (count : ℕ) → AreChains [] (replicate count 0)
none_linked count = record {
  within = λ a. let z = zero_at count a in omega arith;
  down = λ p. omega arith;
}

pub none_listed : (count : ℕ) → chains [] (replicate count 0) ≡ replicate count []
none_listed zero = refl
none_listed (suc count) = ap (λ xs. [] ∷ xs) (none_listed count)

-- ---- a link was put in front of a list

module _ (links : List (ℕ × ℕ)) (firsts : List ℕ) (a number : ℕ) (h : AreChains links firsts) where
  abbrev longer : List (ℕ × ℕ)
  longer = links ++ ((number, get_or firsts a 0) ∷ [])

  abbrev begun : List ℕ
  begun = set firsts a (length links + 1)

  long : length longer ≡ length links + 1
  long = length-append links ((number, get_or firsts a 0) ∷ [])

  pub put_linked : AreChains longer begun
  put_linked = record {
    within = λ b. ⊎_elim (λ e. own b e) (λ d. let i = get_or-set_other firsts a b (length links + 1) 0 d in let w = h.within b in let n = long in omega arith) (cases_eq b a);
    down = λ p. ⊎_elim
        (λ l. subst (λ q. q.1 ≤ p) (sym (get_or_append_left links ((number, get_or firsts a 0) ∷ []) (0, 0) p l)) (h.down p))
        (λ ge. ⊎_elim
        (λ e. subst (λ q. q.1 ≤ p) (sym (get_or_at links (number, get_or firsts a 0) [] (0, 0) p (sym e))) (let w = h.within a in omega arith))
        (λ d. subst (λ q. q.1 ≤ p) (sym (get_or_past longer p (0, 0) (let n = long in omega arith))) (omega arith))
        (cases_eq p (length links)))
        (cases_lt p (length links));
  }
    where
      own : (b : ℕ) → b ≡ a → get_or begun b 0 ≤ length longer
      own b e =
          let n = long in
          ⊎_elim
          (λ l. let i = ap (λ c. get_or begun c 0) e ∙ get_or-set_same firsts a (length links + 1) 0 l in omega arith)
          (λ ge. let i = ap (λ xs. get_or xs b 0) (set_past firsts a (length links + 1) ge) in let w = h.within b in omega arith)
          (cases_lt a (length firsts))

  pub put_listed : chains longer begun ≡ noted (chains links firsts) a number
  put_listed =
      let f : ℕ → List ℕ = λ link. chain link links link in
      let g : ℕ → List ℕ = λ link. chain link longer link in
      let first = get_or firsts a 0 in
      let w = h.within a in
      let others : map g firsts ≡ map f firsts = maps_same g f firsts (length links) h.within (λ m l. chain_pushed links (number, first) h.down m m l) in
      let one : length links + 1 ≡ suc (length links) = omega arith in
      let own : g (length links + 1) ≡ number ∷ get_or (chains links firsts) a [] =
      ap g one
      ∙ ap (λ q. q.0 ∷ chain (length links) longer q.1) (get_or_at links (number, first) [] (0, 0) (length links) refl)
      ∙ ap (λ xs. number ∷ xs) (chain_pushed links (number, first) h.down (length links) first w ∙ chain_same links h.down (length links) first first w (omega arith) ∙ sym (map_at f firsts a refl)) in
      map-set g firsts a (length links + 1)
      ∙ ap₂ (λ xs x. set xs a x) others own

pub noted_past : (lists : List (List ℕ)) (a number : ℕ) → length lists ≤ a → lists ≡ noted lists a number
noted_past lists a number l = sym (set_past lists a (number ∷ get_or lists a []) l)

pub listed_at : (links : List (ℕ × ℕ)) (firsts : List ℕ) (a : ℕ) → get_or (chains links firsts) a [] ≡ chain (get_or firsts a 0) links (get_or firsts a 0)
listed_at links firsts a = map_at (λ link. chain link links link) firsts a refl

pub listed_many : (links : List (ℕ × ℕ)) (firsts : List ℕ) → length (chains links firsts) ≡ length firsts
listed_many links firsts = length-map firsts (λ link. chain link links link)

-- ---- a walk

-- the number at a link, and those behind it
pub walked : (links : List (ℕ × ℕ)) → ((p : ℕ) → (get_or links p (0, 0)).1 ≤ p) → (from link p : ℕ) → link ≡ suc p → from_on from (chain link links link) ≡ (if nat_le from (get_or links p (0, 0)).0 then (get_or links p (0, 0)).0 ∷ [] else []) ++ from_on from (chain (get_or links p (0, 0)).1 links (get_or links p (0, 0)).1)
walked links down from link p e =
    let next = (get_or links p (0, 0)).1 in
    let number = (get_or links p (0, 0)).0 in
    let d = down p in
    ap (λ n. from_on from (chain n links n)) e
    ∙ ap (λ xs. from_on from (number ∷ xs)) (chain_same links down p next next d (omega arith))
    ∙ choice (nat_le from number) number (from_on from (chain next links next))
  where
    choice : (b : Bool) (x : ℕ) (xs : List ℕ) → (if b then x ∷ xs else xs) ≡ (if b then x ∷ [] else []) ++ xs
    choice b x xs = elim b as (λ v. (if v then x ∷ xs else xs) ≡ (if v then x ∷ [] else []) ++ xs) [ true ↦ refl | false ↦ refl ]
