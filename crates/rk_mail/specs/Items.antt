-- Parcels and items of the program, as the model has them.
use Rattle.ce_model.specs.Parcels as model
use Rattle.rk_mail.specs.declared.parcel.Parcel.{Parcel}
use Rattle.rk_mail.specs.declared.parcel.Item.{Item}
use Rattle.rk_mail.specs.declared.parcel.Item.TheVariants.{Start, Mail, Kill}

-- a parcel, with its block by name and bytes
abbrev pub parcel_of : Parcel → model.Parcel
parcel_of parcel =
    record { from = parcel.from; to = parcel.to; number = parcel.number; block = parcel.block }

-- an item
abbrev pub item_of : Item → model.Item
item_of (Start pid image) = model.start pid image
item_of (Mail parcel) = model.mail (parcel_of parcel)
item_of (Kill pid) = model.kill pid
