-- The text of a program with so many workers: each is sent a number and a mailbox for its answer, and main prints the sum of all answers.
use Rattle.std.specs.Prelude.{ℕ, zero, suc, List, [], ◌∷◌, ◌++◌, codes}
use Rattle.std.specs.Fmt.{decimal}

-- the texts of so many numbers, from i on
abbrev pub each_from : (ℕ → List ℕ) → ℕ → ℕ → List ℕ
each_from text i zero = []
each_from text i (suc n) = text i ++ each_from text (suc i) n

-- words, and a number behind them
abbrev pub numbered : List ℕ → ℕ → List ℕ
numbered words i = words ++ decimal i

abbrev pub interfaces_text : List ℕ
interfaces_text = codes "interface Sum { Part(Int) } interface Work { Job(Int, Sum!Part) } "

-- a worker answers three times its number and one
abbrev pub worker_text : ℕ → List ℕ
worker_text i = numbered (codes "def w") i ++ codes "(self: Work?): Unit { guard self : Job { receive Job(x, to) from self -> free(self); to ! Part(x * 3 + 1) } } "

-- answers are added up until no one can send another
abbrev pub gather_text : List ℕ
gather_text = codes "def gather(self: Sum?, sum: Int): Unit { guard self : *Part { free -> print(sum) receive Part(x) from self -> gather(self, sum + x) } } "

-- a worker is given its mailbox, and sent its number
abbrev pub group_text : ℕ → List ℕ
group_text i =
    numbered (codes "let b") i
    ++ (numbered (codes " = new[Work] in spawn { w") i
    ++ (numbered (codes "(b") i
    ++ (numbered (codes ") }; b") i
    ++ (numbered (codes " ! Job(") i
    ++ codes ", all); "))))

-- main with so many workers
abbrev pub main_text : ℕ → List ℕ
main_text n = codes "def main(): Unit { let all = new[Sum] in " ++ (each_from group_text 1 n ++ (codes "gather(all, 0) }" ++ 10 ∷ []))

abbrev pub load_text : ℕ → List ℕ
load_text n = interfaces_text ++ (each_from worker_text 1 n ++ (gather_text ++ main_text n))
