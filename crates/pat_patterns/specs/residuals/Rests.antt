-- What a part leaves of a pattern once a message is taken.
use Rattle.pat_words_spec.specs.Patterns.{Pat, sum_of, prod_of}

-- the residual of a product of e and f, by the residuals of both
abbrev pub product_rest : Pat → Pat → Pat → Pat → Pat
product_rest e f e_rest f_rest = sum_of (prod_of e_rest f) (prod_of e f_rest)
