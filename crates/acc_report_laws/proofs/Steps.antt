-- The numbers of the messages in the steps of a document are those of 64 bits.
use Rattle.std.proofs.Common.{ℕ, List, [], ◌∷◌, map, codes, Option, Some, None, inl, inr, option_and_then}
use Rattle.std.specs.List.{AllByRecursion}
use Rattle.std.specs.Str.{bytes_eq}
use Rattle.std.proofs.lemmas.Bool.{cases_Bool}
use Rattle.serde_json.specs.Data.{Data}
use Rattle.serde_json.specs.Find.{as_str}
use Rattle.acc_schedule.specs.Fields.{items}
use Rattle.acc_schedule.specs.Steps.{Cast, first_in, form_step, operands_in, step_of, steps_of, word_in}
use Rattle.acc_schedule.specs.Words.{word_of}
use Rattle.acc_report_laws.specs.Numbers.{NumbersMessage}
use Rattle.acc_report_laws.proofs.Data.{AllFit, items_all_fit, number_in_fits}

first_fits : (ds : List Data) → AllByRecursion AllFit ds → AllFit (first_in ds)
first_fits [] h = tt
first_fits (d ∷ ds) h = h.0

-- each word in its turn; two of them have the number of a message after them
text_numbers : (cast : Cast) (text : List ℕ) (ds : List Data) → AllByRecursion AllFit ds → NumbersMessage (form_step cast (word_of text) ds)
text_numbers cast text ds h =
    let number = number_in_fits (first_in ds) (first_fits ds h) in
    elim (cases_Bool (bytes_eq text (codes "begin"))) [
      | inl is ↦ rw is tt
      | inr not_begin ↦ rw not_begin (elim (cases_Bool (bytes_eq text (codes "deliver"))) [
        | inl is ↦ rw is number
        | inr not_deliver ↦ rw not_deliver (elim (cases_Bool (bytes_eq text (codes "drop"))) [
          | inl is ↦ rw is number
          | inr not_drop ↦ rw not_drop (elim (cases_Bool (bytes_eq text (codes "recover"))) [
            | inl is ↦ rw is tt
            | inr not_recover ↦ rw not_recover (elim (cases_Bool (bytes_eq text (codes "slow"))) [
              | inl is ↦ rw is tt
              | inr not_slow ↦ rw not_slow (elim (cases_Bool (bytes_eq text (codes "restart"))) [
                | inl is ↦ rw is tt
                | inr not_restart ↦ rw not_restart (elim (cases_Bool (bytes_eq text (codes "fail"))) [
                  | inl is ↦ rw is tt
                  | inr not_fail ↦ rw not_fail (elim (cases_Bool (bytes_eq text (codes "drain"))) [
                    | inl is ↦ rw is tt
                    | inr no_word ↦ rw no_word tt
                  ])
                ])
              ])
            ])
          ])
        ])
      ])
    ]

said_numbers : (cast : Cast) (text : Option (List ℕ)) (ds : List Data) → AllByRecursion AllFit ds → NumbersMessage (form_step cast (option_and_then word_of text) ds)
said_numbers cast None ds h = tt
said_numbers cast (Some text) ds h = text_numbers cast text ds h

form_numbers : (cast : Cast) (ds : List Data) → AllByRecursion AllFit ds → NumbersMessage (form_step cast (word_in ds) (operands_in ds))
form_numbers cast [] h = tt
form_numbers cast (word ∷ operands) h = said_numbers cast (as_str word) operands h.1

each_numbers : (cast : Cast) (ds : List Data) → AllByRecursion AllFit ds → AllByRecursion NumbersMessage (map (step_of cast) ds)
each_numbers cast [] h = tt
each_numbers cast (d ∷ ds) h = (form_numbers cast (items d) (items_all_fit d h.0), each_numbers cast ds h.1)

pub steps_number : (cast : Cast) (d : Data) → AllFit d → AllByRecursion NumbersMessage (steps_of cast d)
steps_number cast d h = each_numbers cast (items d) (items_all_fit d h)
