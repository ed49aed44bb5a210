-- What is printed of money and refusals.
use Rattle.std.specs.Prelude.{ℕ, ◌*◌, ◌/◌, ◌%◌, List, ◌++◌, Some, None, codes, decimal, Option}
use Rattle.types.specs.declared.money.Price.{Price}
use Rattle.faults.specs.declared.refusals.Refusal.{Refusal}
use Rattle.faults.specs.Refusals.{number_of, layer_number}
use Rattle.names.specs.Names.{reason_word}

-- a quarter cent is 25 ten-thousandths of a dollar: dollars, a point and four decimals
unfoldable pub dollars : ℕ → List ℕ
dollars q =
    let n = q * 25 in
    decimal (n / 10000) ++ (codes "." ++ (decimal (n / 1000 % 10) ++ (decimal (n / 100 % 10) ++ (decimal (n / 10 % 10) ++ decimal (n % 10)))))

-- a missing side of a quote is a dash
abbrev pub side_dollars : Option Price → List ℕ
side_dollars None = codes "-"
side_dollars (Some p) = dollars p.quarters

abbrev pub refusal_words : Refusal → List ℕ
refusal_words r =
    codes "refused " ++ (decimal (number_of r.reason) ++ (codes " " ++ (reason_word r.reason
    ++ (codes " layer " ++ (decimal (layer_number r.layer) ++ (codes " place " ++ decimal r.place))))))
